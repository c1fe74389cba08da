-- Results of jobs, one by one.
use Rattle.std.proofs.Common.{◌≡◌, ◌++◌, List, [], ◌∷◌, Result, Ok, Err, subst, sym}
use Rattle.std.specs.Prelude.{IfOk, Vec}
use Rattle.std.specs.Global.{Global}
use Rattle.std.specs.List.{AllZip}

pub zip_more : {J D : Type 0} (P : J → D → Type 0) (jobs : List J) (results : List D) (job : J) (result : D)
    → AllZip P jobs results → P job result → AllZip P (jobs ++ job ∷ []) (results ++ result ∷ [])
zip_more P [] [] job result all one = (one, tt)
zip_more P [] (r ∷ results) job result all one = absurd all
zip_more P (j ∷ jobs) [] job result all one = absurd all
zip_more P (j ∷ jobs) (r ∷ results) job result (own, others) one = (own, zip_more P jobs results job result others one)

-- those of all jobs but the last, and that of the last
module _ {J D E : Type 0} (P : J → D → Type 0) (jobs front : List J) (job : J) (last : D) (others : Result (Vec D Global) E) where
  pub all_did : (result : Result (Vec D Global) E) → jobs ≡ front ++ job ∷ [] → P job last → IfOk others (λ results. AllZip P front results.items)
      → IfOk result (λ all. (results : Vec D Global) × (others ≡ Ok results) × (all.items ≡ results.items ++ last ∷ []))
      → IfOk result (λ all. AllZip P jobs all.items)
  all_did (Err e) are one did with_last = tt
  all_did (Ok all) are one did (results, is, items) =
      subst (λ (js : List J). AllZip P js all.items) (sym are)
      (subst (λ (ds : List D). AllZip P (front ++ job ∷ []) ds) (sym items)
      (zip_more P front results.items job last (subst (λ r. IfOk r (λ rs. AllZip P front rs.items)) is did) one))
