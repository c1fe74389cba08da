-- A file of a segment that is cut at any byte.
use Rattle.std.proofs.Common.{◌≡◌, ◌⊎◌, ℕ, ◌+◌, ◌-◌, ◌<◌, ◌≤◌, List, ◌∷◌, ◌++◌, length, take, refl, ◌∙◌, ap, inl, inr, arith}
use Rattle.std.specs.Int.{w32, w64, to_be_bytes}
use Rattle.std.proofs.lemmas.Bool.{cases_lt}
use Rattle.sb_durable.specs.Head.{Head, IsUnbegun, IsCutHead, IsOpened, mark, head_bytes, head_digest, head_size, Stands}
use Rattle.sb_durable.specs.Chain.{CutFilesStand}
use Rattle.sb_durable.proofs.Heads.{length-head}
use Rattle.sb_durable.proofs.SegmentShortened.{shortened, take_behind, few_of}

-- what a head has before its settings, behind its gate
abbrev fields : Head → List ℕ
fields head = mark ++ (to_be_bytes w64 head.number ++ (to_be_bytes w64 head.before ++ to_be_bytes w32 (length head.settings)))

module _ (head : Head) (contents : List (List ℕ)) (file : List ℕ) (n : ℕ) (stands : Stands head contents file) where
  -- what is behind them
  abbrev others : List ℕ
  others = head.settings ++ to_be_bytes w64 (head_digest head) ++ stands.rest

  abbrev behind_mark : List ℕ
  behind_mark = to_be_bytes w64 head.number ++ (to_be_bytes w64 head.before ++ (to_be_bytes w32 (length head.settings) ++ (head.settings ++ to_be_bytes w64 (head_digest head) ++ stands.rest)))

  -- the gate stays
  opened_first : (bytes : List ℕ) → take n (stands.begins.gate ∷ (head_bytes head ++ stands.rest)) ≡ stands.begins.gate ∷ bytes → IsOpened bytes (take n file)
  opened_first bytes is = record { gate = stands.begins.gate; opened = stands.begins.opened; whole = ap (λ (l : List ℕ). take n l) stands.begins.whole ∙ is }

  cut_numbers : 8 < n → n < 28 → IsCutHead (take n file)
  cut_numbers more less =
      record {
        rest = take (n - 8) behind_mark;
        cut = inl (omega (arith, few_of (n - 8) behind_mark, more, less));
        begins = opened_first (mark ++ take (n - 8) behind_mark) (take_behind (stands.begins.gate ∷ mark) behind_mark (n - 8) n (omega (arith, more)));
      }

  cut_settings : 28 ≤ n → n < 36 + length head.settings → IsCutHead (take n file)
  cut_settings more less =
      record {
        rest = to_be_bytes w64 head.number ++ (to_be_bytes w64 head.before ++ (to_be_bytes w32 (length head.settings) ++ take (n - 28) others));
        cut = inr (head.number, head.before, length head.settings, take (n - 28) others, stands.fits.2, omega (arith, few_of (n - 28) others, more, less), refl);
        begins = opened_first (fields head ++ take (n - 28) others) (take_behind (stands.begins.gate ∷ fields head) others (n - 28) n (omega (arith, more)));
      }

  cut_blocks : 36 + length head.settings ≤ n → (k : ℕ) × Stands head (take k contents) (take n file)
  cut_blocks more =
      let left = n - head_size head in
      let short = shortened (n - head_size head) (head_digest head) contents stands.rest stands.behind in (
        short.0,
        record {
          fits = stands.fits;
          rest = take (n - head_size head) stands.rest;
          begins = opened_first (head_bytes head ++ take (n - head_size head) stands.rest)
              (take_behind (stands.begins.gate ∷ head_bytes head) stands.rest (n - head_size head) n (omega (arith, more, length-head head)));
          behind = short.1;
        },
      )

  pub cut_anywhere : IsUnbegun (take n file) ⊎ (IsCutHead (take n file) ⊎ ((k : ℕ) × Stands head (take k contents) (take n file)))
  cut_anywhere = elim (cases_lt n 9) [
    | inl few ↦ inl (inl (omega (arith, few, few_of n file)))
    | inr more ↦ elim (cases_lt n 28) [
      | inl less ↦ inr (inl (cut_numbers (omega (arith, more)) less))
      | inr many ↦ elim (cases_lt n (36 + length head.settings)) [
        | inl less ↦ inr (inl (cut_settings many less))
        | inr all ↦ inr (inr (cut_blocks all))
      ]
    ]
  ]

pub cut_files_stand : CutFilesStand
cut_files_stand head contents file n stands = cut_anywhere head contents file n stands
