use Rattle.std.proofs.Common.{◌≡◌, ◌∙◌, ◌++◌, ◌∷◌, [], List, ℕ, ap, map, append_assoc}
use Rattle.std.proofs.lemmas.Grind.{flat_map-append}
use Rattle.std.specs.Prelude.{slice_index}
use Rattle.sb_value.specs.declared.refusal.Refusal.TheVariants as refusal
use Rattle.sb_wire.specs.declared.refusal.WireRefusal.TheVariants as wire
use Rattle.sb_wire.specs.Counts.{count_part, count_parts, of_command, of_wire, of_commands, of_lines}
use Rattle.sb_wire.proofs.summary_text.push_refusals.Goals as goal

joined : (counts : List ℕ) (xs ys : List (ℕ × List ℕ)) → count_parts counts (xs ++ ys) ≡ count_parts counts xs ++ count_parts counts ys
joined counts xs ys = flat_map-append (λ row. count_part (slice_index counts row.0) row) xs ys

regroup : (old a b c d : List ℕ) → (((old ++ a) ++ b) ++ c) ++ d ≡ old ++ (a ++ (b ++ (c ++ d)))
regroup old a b c d = simp append_assoc

-- the refusals are told in four parts
parts : (counts : List ℕ) (xs ys zs ws : List (ℕ × List ℕ)) (old one two three four : List ℕ)
    → one ≡ old ++ count_parts counts xs → two ≡ one ++ count_parts counts ys → three ≡ two ++ count_parts counts zs → four ≡ three ++ count_parts counts ws
    → four ≡ old ++ count_parts counts (xs ++ (ys ++ (zs ++ ws)))
parts counts xs ys zs ws old one two three four e1 e2 e3 e4 =
    let all = joined counts xs (ys ++ (zs ++ ws))
    ∙ ap (λ l. count_parts counts xs ++ l) (joined counts ys (zs ++ ws) ∙ ap (λ l. count_parts counts ys ++ l) (joined counts zs ws)) in
    rw (e4, e3, e2, e1, all) (regroup old (count_parts counts xs) (count_parts counts ys) (count_parts counts zs) (count_parts counts ws))

pub returns : goal.returns
returns c =
    parts c.args.counts.now (map of_command (refusal.Syntax ∷ [])) (map of_wire of_lines) (map of_command of_commands) (map of_wire (wire.NotBegun ∷ []))
    c.args.out.now.items c.push_commands.new.out.items c.push_lines.new.out.items c.push_commands-2.new.out.items c.push_lines-2.new.out.items
    c.in_ok-push_commands.ensures c.in_ok-push_lines.ensures c.in_ok-push_commands-2.ensures c.in_ok-push_lines-2.ensures
