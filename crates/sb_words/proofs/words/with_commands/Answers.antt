use Rattle.std.proofs.Common.{◌≡◌, ◌∷◌, ◌∙◌, ◌+◌, ◌&&◌, Bool, true, false, not, List, drop, ap, refl}
use Rattle.std.proofs.lemmas.Bool.{false≢true}
use Rattle.clap.specs.Words.{App, app_of, with_subcommand}
use Rattle.sb_words.specs.Words.{command_of, with_commands}
use Rattle.sb_words.specs.declared.argument.Verb.{Verb}
use Rattle.sb_words.specs.declared.argument.Verb.TheVariants.{Run, Serve, Replay, Parse, Dump, Compact, Journal, Key}
use Rattle.sb_words.proofs.Fitting.{split_at}
use Rattle.sb_words.proofs.words.with_commands.Goals as goal

one_more : (a b : App) (v : Verb) (rest left : List Verb) → b ≡ with_subcommand a (command_of v) → v ∷ rest ≡ left → with_commands b rest ≡ with_commands a left
one_more a b v rest left is split = ap (λ x. with_commands x rest) is ∙ ap (with_commands a) split

is_plain : (v : Verb) → (command_of v).is_plain ≡ true
is_plain Run = refl
is_plain Serve = refl
is_plain Replay = refl
is_plain Parse = refl
is_plain Dump = refl
is_plain Compact = refl
is_plain Journal = refl
is_plain Key = refl

third : (a b c d : Bool) → (a && (not b && (not c && d))) ≡ true → c ≡ false
third true false false d h = refl
third true false true d h = absurd (false≢true h)
third true true c d h = absurd (false≢true h)
third false b c d h = absurd (false≢true h)

pub loop-verb-preserved : goal.loop-verb-preserved
loop-verb-preserved c =
    let vs = c.args.verbs.now in
    let k = c.loop-verb.verb-index in
    let added = c.in_ok-added.added in
    let local = third _ _ _ _ (ap (λ s. s.is_plain) c.in_ok-added.ensures ∙ is_plain _) in
    one_more (app_of c.loop-verb.grown) (app_of c.in_ok-grown.grown) _ (drop (k + 1) vs) (drop k vs)
    (c.in_ok-grown.ensures.shape local ∙ ap (with_subcommand (app_of c.loop-verb.grown)) c.in_ok-added.ensures) (split_at vs k _ c.loop-verb-test.true) ∙ c.loop-verb.invariant
