-- A statement that makes no step is told by its kind.
use Rattle.std.proofs.Common.{◌≡◌, ℕ, Bool, ◌⊎◌, List, [], ◌∷◌, length, Option, Some, None, arith, inl, inr, refl, sym, subst}
use Rattle.sb_value.specs.declared.value.ColumnType.TheVariants.{Text}
use Rattle.sb_postgres.specs.declared.query.kind.StatementKind.{StatementKind}
use Rattle.sb_postgres.specs.declared.query.kind.StatementKind.TheVariants as k
use Rattle.sb_postgres.specs.declared.told.tag.Effect.TheVariants.{Done}
use Rattle.sb_postgres.specs.Tags.{tag_of}
use Rattle.sb_frontend.specs.declared.form.Form.{Form}
use Rattle.sb_frontend.specs.Columns.{one_value}
use Rattle.sb_frontend.specs.Considerations.{Considered, notices}
use Rattle.sb_frontend.specs.Outputs.{Outgoing, Says, SaysSome, Tells, TellsSome}
use Rattle.sb_frontend.specs.Stepless.{TellsSetting, TellsWithout, one_found, shown_tag, warnings, without_tag}
use Rattle.sb_frontend.proofs.Saying.{says-nothing, says-tells, tells-some}

pub no_warnings : (kind : StatementKind) (has own : Bool) (o : Outgoing) → (kind ≡ k.Begin → ⊥) → (kind ≡ k.Commit → ⊥) → (kind ≡ k.Rollback → ⊥) → Says (warnings kind has own) o o
no_warnings k.Begin has own o b c r = absurd (b refl)
no_warnings k.Commit has own o b c r = absurd (c refl)
no_warnings k.Rollback has own o b c r = absurd (r refl)
no_warnings k.Setting has own o b c r = says-nothing o
no_warnings k.Show has own o b c r = says-nothing o
no_warnings k.SelectOne has own o b c r = says-nothing o
no_warnings k.SelectVersion has own o b c r = says-nothing o
no_warnings k.SelectSchema has own o b c r = says-nothing o
no_warnings k.Unsupported has own o b c r = says-nothing o
no_warnings k.Definition has own o b c r = says-nothing o
no_warnings k.Process has own o b c r = says-nothing o
no_warnings k.Statement has own o b c r = says-nothing o

pub no_notices : (cs : List Considered) (o : Outgoing) → length cs ≡ 0 → Says (notices cs) o o
no_notices [] o e = says-nothing o
no_notices (c ∷ cs) o e = absurd (omega (arith, e))

-- these are acknowledged with their warnings
pub acknowledged : (form : Form) (kind : StatementKind) (bytes : List ℕ) (has own : Bool) (old new : Outgoing) → Tells (warnings kind has own) (Some (tag_of kind bytes Done)) old new
    → (kind ≡ k.Begin) ⊎ ((kind ≡ k.Commit) ⊎ ((kind ≡ k.Rollback) ⊎ (kind ≡ k.Setting))) → TellsSome (TellsWithout form kind bytes has own) (without_tag kind bytes) old new
acknowledged form kind bytes has own old new t (inl e) =
    subst (λ (kd : StatementKind). TellsSome (TellsWithout form kd bytes has own) (without_tag kd bytes) old new) (sym e)
    (tells-some (TellsWithout form k.Begin bytes has own) (warnings k.Begin has own) (Some (tag_of k.Begin bytes Done)) old new refl (subst (λ (kd : StatementKind). Tells (warnings kd has own) (Some (tag_of kd bytes Done)) old new) e t))
acknowledged form kind bytes has own old new t (inr (inl e)) =
    subst (λ (kd : StatementKind). TellsSome (TellsWithout form kd bytes has own) (without_tag kd bytes) old new) (sym e)
    (tells-some (TellsWithout form k.Commit bytes has own) (warnings k.Commit has own) (Some (tag_of k.Commit bytes Done)) old new refl (subst (λ (kd : StatementKind). Tells (warnings kd has own) (Some (tag_of kd bytes Done)) old new) e t))
acknowledged form kind bytes has own old new t (inr (inr (inl e))) =
    subst (λ (kd : StatementKind). TellsSome (TellsWithout form kd bytes has own) (without_tag kd bytes) old new) (sym e)
    (tells-some (TellsWithout form k.Rollback bytes has own) (warnings k.Rollback has own) (Some (tag_of k.Rollback bytes Done)) old new refl (subst (λ (kd : StatementKind). Tells (warnings kd has own) (Some (tag_of kd bytes Done)) old new) e t))
acknowledged form kind bytes has own old new t (inr (inr (inr e))) =
    subst (λ (kd : StatementKind). TellsSome (TellsWithout form kd bytes has own) (without_tag kd bytes) old new) (sym e)
    (tells-some (TellsWithout form k.Setting bytes has own) (warnings k.Setting has own) (Some (tag_of k.Setting bytes Done)) old new refl (subst (λ (kd : StatementKind). Tells (warnings kd has own) (Some (tag_of kd bytes Done)) old new) e t))

-- by its kind
pub as-kind : (form : Form) (kind is : StatementKind) (bytes : List ℕ) (has own : Bool) (old new : Outgoing) → kind ≡ is → TellsSome (TellsWithout form is bytes has own) (without_tag is bytes) old new
    → TellsSome (TellsWithout form kind bytes has own) (without_tag kind bytes) old new
as-kind form kind is bytes has own old new e t = subst (λ (kd : StatementKind). TellsSome (TellsWithout form kd bytes has own) (without_tag kd bytes) old new) (sym e) t

-- a setting that is there, or isn't
pub setting-there : (form : Form) (name value : List ℕ) (found : Option (List ℕ)) (old new : Outgoing) → found ≡ Some value → Tells (one_value form name Text value) (Some one_found) old new
    → TellsSome (TellsSetting form name found) (shown_tag found) old new
setting-there form name value found old new e t =
    subst (λ (f : Option (List ℕ)). TellsSome (TellsSetting form name f) (shown_tag f) old new) (sym e) (tells-some (TellsSetting form name (Some value)) (one_value form name Text value) (Some one_found) old new refl t)

pub setting-missing : (form : Form) (name : List ℕ) (found : Option (List ℕ)) (old new : Outgoing) → found ≡ None → old.held ≡ None → SaysSome (TellsSetting form name None) old new
    → TellsSome (TellsSetting form name found) (shown_tag found) old new
setting-missing form name found old new e none s =
    subst (λ (f : Option (List ℕ)). TellsSome (TellsSetting form name f) (shown_tag f) old new) (sym e) (says-tells (TellsSetting form name None) None old new none s)
