-- Tables as a statement finds them.
use Rattle.std.proofs.Common.{◌≡◌, ◌∙◌, ℕ, List, [], Option, Some, None, Bor, option_map, unwrap_or, sym, ap}
use Rattle.std.specs.Option.{option_copied}
use Rattle.sb_value.specs.Table.{table_at, empty_table}
use Rattle.sb_tables.specs.Stored.{Stored}
use Rattle.sb_tables.specs.Held.{Held, entries, numbered, no_rows}
use Rattle.sb_process.proofs.Making.{table-stored}

pub seen_some : (tables : List Held) (id : ℕ) (r : Option (Bor Stored)) (t : Bor Stored) → option_copied r ≡ option_map (λ (h : Held). h.stored) (numbered tables id) → r ≡ Some t → table_at (entries tables) id ≡ t.now.table
seen_some tables id r t e is = table-stored tables id ∙ ap (λ (o : Option Stored). (unwrap_or o (no_rows [])).table) (sym e ∙ ap option_copied is)

pub seen_none : (tables : List Held) (id : ℕ) (r : Option (Bor Stored)) → option_copied r ≡ option_map (λ (h : Held). h.stored) (numbered tables id) → r ≡ None → table_at (entries tables) id ≡ empty_table []
seen_none tables id r e is = table-stored tables id ∙ ap (λ (o : Option Stored). (unwrap_or o (no_rows [])).table) (sym e ∙ ap option_copied is)
