use Rattle.std.proofs.Common.{List, ℕ, [], ◌∷◌, ◌++◌, ◌∙◌, ap}
use Rattle.std.specs.Int.{w64, to_be_bytes}
use Rattle.sqlite_disk.specs.Digest.{digest}
use Rattle.sb_durable.specs.Head.{Head, head_text}
use Rattle.sb_durable.proofs.segment.begin.whole_head.Goals as goal

pub returns-clause-bytes : goal.returns-clause-bytes
returns-clause-bytes c =
    let head : Head = record { number = c.args.number; before = c.args.before; settings = c.args.settings.now } in
    let own = c.to_be_bytes.ensures ∙ ap (λ (n : ℕ). to_be_bytes w64 n) (c.digest_of-own.ensures.value ∙ ap (λ (l : List ℕ). digest 0 l) (c.deref.ensures.value ∙ c.in_ok-text.ensures)) in
    let opened = c.in_ok-push.ensures.items ∙ ap (λ (l : List ℕ). l ++ 70 ∷ []) c.in_ok-bytes.ensures.items in
    let text =
    c.in_ok-extend_from_slice.ensures.items
    ∙ ap (λ (l : List ℕ). l ++ c.deref-2.result.now) opened
    ∙ ap (λ (l : List ℕ). 70 ∷ l) (c.deref-2.ensures.value ∙ c.in_ok-text.ensures) in
    c.in_ok-push-2.ensures.items
    ∙ ap (λ (l : List ℕ). l ++ 0 ∷ []) (
    c.in_ok-extend_from_slice-2.ensures.items
    ∙ ap (λ (l : List ℕ). l ++ c.to_be_bytes.result) text
    ∙ ap (λ (l : List ℕ). 70 ∷ (head_text head ++ l)) own
    )
