use Rattle.std.proofs.Common.{◌≡◌, ◌++◌, ◌∷◌, [], List, ℕ, codes, append_assoc}
use Rattle.std.specs.Prelude.{decimal}
use Rattle.sb_wire.specs.Counts.{count_parts, refusals, summary_line}
use Rattle.sb_wire.specs.Lines.{newline}
use Rattle.sb_wire.specs.declared.summary.Summary.{Summary}
use Rattle.sb_wire.proofs.summary_text.write_summary.Goals as goal

regroup : (old a x b y parts end : List ℕ) → (((old ++ (a ++ x)) ++ (b ++ y)) ++ parts) ++ end ≡ old ++ (a ++ x ++ b ++ y ++ parts ++ end)
regroup old a x b y parts end = simp append_assoc

-- the line is added in four parts
parts : (s : Summary) (old one two three four : List ℕ) → one ≡ old ++ (codes "lines " ++ decimal s.lines) → two ≡ one ++ (codes ", steps " ++ decimal s.steps)
    → three ≡ two ++ count_parts s.refused refusals → four ≡ three ++ newline ∷ [] → four ≡ old ++ summary_line s
parts s old one two three four e1 e2 e3 e4 =
    rw (e4, e3, e2, e1) (regroup old (codes "lines ") (decimal s.lines) (codes ", steps ") (decimal s.steps) (count_parts s.refused refusals) (newline ∷ []))

pub returns : goal.returns
returns c =
    parts c.args.summary.now c.args.out.now.items c.push_labelled.new.out.items c.push_labelled-2.new.out.items c.push_refusals.new.out.items c.push.new.self.items
    c.in_ok-push_labelled.ensures c.in_ok-push_labelled-2.ensures c.in_ok-push_refusals.ensures c.in_ok-push.ensures.items
