-- Promise: the text of a reply, as its lines.
use Rattle.std.specs.Prelude.{ℕ, List, [], ◌∷◌, ◌++◌, map, length, codes, decimal}
use Rattle.std.specs.List.{join_with_byte}
use Rattle.sb_value.specs.declared.refusal.Verdict.{Verdict}
use Rattle.sb_value.specs.declared.refusal.Verdict.TheVariants as verdict
use Rattle.sb_value.specs.declared.refusal.Refusal.{Refusal}
use Rattle.sb_value.specs.declared.refusal.Refusal.TheVariants as refusal
use Rattle.sb_rows.specs.RowText.{row_text}
use Rattle.sb_value.specs.Refusal.{refusal_number, refusal_name}
use Rattle.sb_tenant.specs.declared.reply.Reply.{Reply}
use Rattle.sb_tenant.specs.declared.reply.Reply.TheVariants as reply

-- words with a space between each two
abbrev pub words : List (List ℕ) → List ℕ
words ws = join_with_byte 32 ws

-- a refusal by its number and name, and one of a lock also by its table
abbrev pub refusal_words : Refusal → List (List ℕ)
refusal_words r = decimal (refusal_number r) ∷ refusal_name r ∷ []

-- the table of a refused lock
abbrev pub table_words : Refusal → List (List ℕ)
table_words (refusal.Locked table) = table ∷ []
table_words r = []

-- the word for a verdict
abbrev pub verdict_word : Verdict → List ℕ
verdict_word verdict.True = codes "true"
verdict_word verdict.False = codes "false"
verdict_word verdict.Error = codes "error"

-- a considered rule and its verdict
abbrev pub trace_line : List ℕ × Verdict → List ℕ
trace_line v = words (v.0 ∷ verdict_word v.1 ∷ [])

-- a first line that ends with the number of the lines that follow
abbrev pub counted : List (List ℕ) → List (List ℕ) → List (List ℕ)
counted first lines = words (first ++ decimal (length lines) ∷ []) ∷ lines

-- the lines of each reply
abbrev pub reply_lines : Reply → List (List ℕ)
reply_lines reply.Ok = codes "ok" ∷ []
reply_lines (reply.Count n) = words (codes "ok" ∷ decimal n ∷ []) ∷ []
reply_lines (reply.Rows rows) = counted (codes "rows" ∷ []) (map row_text rows)
reply_lines (reply.Done trace) = counted (codes "done" ∷ []) (map trace_line trace)
reply_lines (reply.ByRule r trace) = counted (codes "rolledback" ∷ codes "rule" ∷ r ∷ []) (map trace_line trace)
reply_lines (reply.ByError r e trace) = counted (codes "rolledback" ∷ codes "error" ∷ r ∷ refusal_words e) (map trace_line trace)
reply_lines (reply.ByLimit trace) = counted (codes "rolledback" ∷ codes "limit" ∷ []) (map trace_line trace)
reply_lines (reply.No r) = words (codes "no" ∷ refusal_words r ++ table_words r) ∷ []
