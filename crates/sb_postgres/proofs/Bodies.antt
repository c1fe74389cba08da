-- A message that is read is the message that was written, and what was written is read again.
use Rattle.std.proofs.Common.{◌≡◌, ℕ, Bool, true, false, cond, eqb, List, [], ◌++◌, length, Result, Ok, Err, refl, sym, ap, subst, ◌∙◌}
use Rattle.std.specs.Prelude.{IfOk}
use Rattle.std.specs.Int.{w16, w32}
use Rattle.std.proofs.lemmas.Bool.{eqb-true}
use Rattle.std.proofs.lemmas.List.{append-nil, nil_from_length}
use Rattle.sb_postgres.specs.declared.error.Fault.{Fault}
use Rattle.sb_postgres.specs.declared.error.Fault.TheVariants as fault
use Rattle.sb_postgres.specs.declared.error.ReadError.{ReadError}
use Rattle.sb_postgres.specs.declared.client_message.ClientMessage.{ClientMessage}
use Rattle.sb_postgres.specs.Fields.{text, half, word, value, counted, target}
use Rattle.sb_postgres.specs.Messages.{Said, Query, Parse, Bind, Describe, Execute, Close, Flush, Sync, Terminate, Password, said, kind_of, body_of, IsSaid}
use Rattle.sb_postgres.specs.Reading.{◌>>=◌, Gives, Reader, number_at, text_at, value_at, counted_at, ended, query_at, parse_at, bind_at, describe_at, close_at, execute_at, password_at, message_at}
use Rattle.sb_postgres.proofs.Takes.{IsBytes, bind_ok, Takes, Field, texts, words, halves, values, targets, listed}

-- ---- one field after another

pub step : {X Y : Type 0} {one : Reader X} {spell : X → List ℕ} {Is : X → Type 0} → Field one spell Is → (f : X × List ℕ → Result Y Fault) (bytes : List ℕ) (y : Y) → IsBytes bytes → (one bytes >>= f) ≡ Ok y
    → (x : X) × (rest : List ℕ) × Takes bytes (spell x) rest × Is x × (f (x, rest) ≡ Ok y)
step {X} {Y} {one} field f bytes y fits e =
    let a = bind_ok (one bytes) f y e in
    let t = field.takes bytes a.0.0 a.0.1 fits a.1 in
    (a.0.0, a.0.1, t.0, t.1, a.2)

ended_by : {X : Type 0} (b : Bool) (x y : X) → cond b (Ok x) (Err fault.Trailing) ≡ Ok y → (b ≡ true) × (x ≡ y)
ended_by true x y e = (refl, cc)
ended_by false x y e = absurd cc

pub ended_ok : {X : Type 0} (x : X) (rest : List ℕ) (y : X) → ended x rest ≡ Ok y → (rest ≡ []) × (x ≡ y)
ended_ok x rest y e = let g = ended_by (eqb (length rest) 0) x y e in (nil_from_length rest (eqb-true _ _ g.0), g.1)

pub last : (bytes t rest : List ℕ) → Takes bytes t rest → rest ≡ [] → bytes ≡ t
last bytes t rest takes e = takes.parts ∙ ap (λ (r : List ℕ). t ++ r) e ∙ append-nil t

pub more : (bytes t rest others : List ℕ) → Takes bytes t rest → rest ≡ others → bytes ≡ t ++ others
more bytes t rest others takes e = takes.parts ∙ ap (λ (r : List ℕ). t ++ r) e

pub again_step : {X Y : Type 0} {one : Reader X} {spell : X → List ℕ} {Is : X → Type 0} → Field one spell Is → (f : X × List ℕ → Result Y Fault) (x : X) (rest : List ℕ) → Is x → (one (spell x ++ rest) >>= f) ≡ f (x, rest)
again_step {X} {Y} field f x rest is = ap (λ (r : Result (X × List ℕ) Fault). r >>= f) (field.again x rest is)

pub again_last : {X Y : Type 0} {one : Reader X} {spell : X → List ℕ} {Is : X → Type 0} → Field one spell Is → (f : X × List ℕ → Result Y Fault) (x : X) → Is x → (one (spell x) >>= f) ≡ f (x, [])
again_last {X} {Y} {one} {spell} field f x is = ap (λ (b : List ℕ). one b >>= f) (sym (append-nil (spell x))) ∙ again_step field f x [] is

-- ---- each message

pub record Fits (m : Said) (kind : ℕ) (bytes : List ℕ) : Type 0 where
  pub is_said : IsSaid m
  pub kind_is : kind_of m ≡ kind
  pub body_is : body_of m ≡ bytes

query_takes : (bytes : List ℕ) (m : Said) → IsBytes bytes → query_at bytes ≡ Ok m → Fits m 81 bytes
unfolding query_at
query_takes bytes m fits e =
    let a = step texts (λ s. ended (Query s.0) s.1) bytes m fits e in
    let z = ended_ok (Query a.0) a.1 m a.4 in
    subst (λ (m : Said). Fits m 81 bytes) z.1 (record { is_said = a.3; kind_is = refl; body_is = sym (last bytes (text a.0) a.1 a.2 z.0) })

password_takes : (bytes : List ℕ) (m : Said) → IsBytes bytes → password_at bytes ≡ Ok m → Fits m 112 bytes
unfolding password_at
password_takes bytes m fits e =
    let a = step texts (λ s. ended (Password s.0) s.1) bytes m fits e in
    let z = ended_ok (Password a.0) a.1 m a.4 in
    subst (λ (m : Said). Fits m 112 bytes) z.1 (record { is_said = a.3; kind_is = refl; body_is = sym (last bytes (text a.0) a.1 a.2 z.0) })

parse_takes : (bytes : List ℕ) (m : Said) → IsBytes bytes → parse_at bytes ≡ Ok m → Fits m 80 bytes
unfolding parse_at
parse_takes bytes m fits e =
    let a = step texts (λ n. text_at n.1 >>= λ s. counted_at (number_at w32) s.1 >>= λ t. ended (Parse n.0 s.0 t.0) t.1) bytes m fits e in
    let b = step texts (λ s. counted_at (number_at w32) s.1 >>= λ t. ended (Parse a.0 s.0 t.0) t.1) a.1 m a.2.rest_fits a.4 in
    let c = step (listed words) (λ t. ended (Parse a.0 b.0 t.0) t.1) b.1 m b.2.rest_fits b.4 in
    let z = ended_ok (Parse a.0 b.0 c.0) c.1 m c.4 in
    let whole = more bytes (text a.0) a.1 _ a.2 (more a.1 (text b.0) b.1 _ b.2 (last b.1 (counted word c.0) c.1 c.2 z.0)) in
    subst (λ (m : Said). Fits m 80 bytes) z.1 (record { is_said = (a.3, (b.3, c.3)); kind_is = refl; body_is = sym whole })

bind_takes : (bytes : List ℕ) (m : Said) → IsBytes bytes → bind_at bytes ≡ Ok m → Fits m 66 bytes
unfolding bind_at
bind_takes bytes m fits e =
    let a = step texts (λ p. text_at p.1 >>= λ s. counted_at (number_at w16) s.1 >>= λ fs. counted_at value_at fs.1 >>= λ vs. counted_at (number_at w16) vs.1 >>= λ rs. ended (Bind p.0 s.0 fs.0 vs.0 rs.0) rs.1) bytes m fits e in
    let b = step texts (λ s. counted_at (number_at w16) s.1 >>= λ fs. counted_at value_at fs.1 >>= λ vs. counted_at (number_at w16) vs.1 >>= λ rs. ended (Bind a.0 s.0 fs.0 vs.0 rs.0) rs.1) a.1 m a.2.rest_fits a.4 in
    let c = step (listed halves) (λ fs. counted_at value_at fs.1 >>= λ vs. counted_at (number_at w16) vs.1 >>= λ rs. ended (Bind a.0 b.0 fs.0 vs.0 rs.0) rs.1) b.1 m b.2.rest_fits b.4 in
    let d = step (listed values) (λ vs. counted_at (number_at w16) vs.1 >>= λ rs. ended (Bind a.0 b.0 c.0 vs.0 rs.0) rs.1) c.1 m c.2.rest_fits c.4 in
    let f = step (listed halves) (λ rs. ended (Bind a.0 b.0 c.0 d.0 rs.0) rs.1) d.1 m d.2.rest_fits d.4 in
    let z = ended_ok (Bind a.0 b.0 c.0 d.0 f.0) f.1 m f.4 in
    let whole = more bytes (text a.0) a.1 _ a.2 (more a.1 (text b.0) b.1 _ b.2 (more b.1 (counted half c.0) c.1 _ c.2 (more c.1 (counted value d.0) d.1 _ d.2 (last d.1 (counted half f.0) f.1 f.2 z.0)))) in
    subst (λ (m : Said). Fits m 66 bytes) z.1 (record { is_said = (a.3, (b.3, (c.3, (d.3, f.3)))); kind_is = refl; body_is = sym whole })

describe_takes : (bytes : List ℕ) (m : Said) → IsBytes bytes → describe_at bytes ≡ Ok m → Fits m 68 bytes
unfolding describe_at
describe_takes bytes m fits e =
    let a = step targets (λ t. text_at t.1 >>= λ n. ended (Describe t.0 n.0) n.1) bytes m fits e in
    let b = step texts (λ n. ended (Describe a.0 n.0) n.1) a.1 m a.2.rest_fits a.4 in
    let z = ended_ok (Describe a.0 b.0) b.1 m b.4 in
    let whole = more bytes (target a.0) a.1 _ a.2 (last a.1 (text b.0) b.1 b.2 z.0) in
    subst (λ (m : Said). Fits m 68 bytes) z.1 (record { is_said = b.3; kind_is = refl; body_is = sym whole })

close_takes : (bytes : List ℕ) (m : Said) → IsBytes bytes → close_at bytes ≡ Ok m → Fits m 67 bytes
unfolding close_at
close_takes bytes m fits e =
    let a = step targets (λ t. text_at t.1 >>= λ n. ended (Close t.0 n.0) n.1) bytes m fits e in
    let b = step texts (λ n. ended (Close a.0 n.0) n.1) a.1 m a.2.rest_fits a.4 in
    let z = ended_ok (Close a.0 b.0) b.1 m b.4 in
    let whole = more bytes (target a.0) a.1 _ a.2 (last a.1 (text b.0) b.1 b.2 z.0) in
    subst (λ (m : Said). Fits m 67 bytes) z.1 (record { is_said = b.3; kind_is = refl; body_is = sym whole })

execute_takes : (bytes : List ℕ) (m : Said) → IsBytes bytes → execute_at bytes ≡ Ok m → Fits m 69 bytes
unfolding execute_at
execute_takes bytes m fits e =
    let a = step texts (λ p. number_at w32 p.1 >>= λ r. ended (Execute p.0 r.0) r.1) bytes m fits e in
    let b = step words (λ r. ended (Execute a.0 r.0) r.1) a.1 m a.2.rest_fits a.4 in
    let z = ended_ok (Execute a.0 b.0) b.1 m b.4 in
    let whole = more bytes (text a.0) a.1 _ a.2 (last a.1 (word b.0) b.1 b.2 z.0) in
    subst (λ (m : Said). Fits m 69 bytes) z.1 (record { is_said = (a.3, b.3); kind_is = refl; body_is = sym whole })

bare_takes : (w : Said) (kind : ℕ) (bytes : List ℕ) (m : Said) → IsSaid w → kind_of w ≡ kind → body_of w ≡ [] → ended w bytes ≡ Ok m → Fits m kind bytes
bare_takes w kind bytes m is k b e =
    let z = ended_ok w bytes m e in
    subst (λ (m : Said). Fits m kind bytes) z.1 (record { is_said = is; kind_is = k; body_is = b ∙ sym z.0 })

-- ---- any message

pick : {P : Type 0} (b : Bool) (x y : Result Said Fault) (m : Said) → cond b x y ≡ Ok m → (b ≡ true → x ≡ Ok m → P) → (y ≡ Ok m → P) → P
pick true x y m e first second = first refl e
pick false x y m e first second = second e

of_kind : (kind k : ℕ) (m : Said) (bytes : List ℕ) → eqb kind k ≡ true → Fits m k bytes → Fits m kind bytes
of_kind kind k m bytes t fits = subst (λ (k : ℕ). Fits m k bytes) (sym (eqb-true _ _ t)) fits

pub message_takes : (kind : ℕ) (bytes : List ℕ) (m : Said) → IsBytes bytes → message_at kind bytes ≡ Ok m → Fits m kind bytes
unfolding message_at
message_takes kind bytes m fits e =
    pick (eqb kind 81) _ _ m e (λ k h. of_kind kind 81 m bytes k (query_takes bytes m fits h)) (λ e.
    pick (eqb kind 80) _ _ m e (λ k h. of_kind kind 80 m bytes k (parse_takes bytes m fits h)) (λ e.
    pick (eqb kind 66) _ _ m e (λ k h. of_kind kind 66 m bytes k (bind_takes bytes m fits h)) (λ e.
    pick (eqb kind 68) _ _ m e (λ k h. of_kind kind 68 m bytes k (describe_takes bytes m fits h)) (λ e.
    pick (eqb kind 69) _ _ m e (λ k h. of_kind kind 69 m bytes k (execute_takes bytes m fits h)) (λ e.
    pick (eqb kind 67) _ _ m e (λ k h. of_kind kind 67 m bytes k (close_takes bytes m fits h)) (λ e.
    pick (eqb kind 72) _ _ m e (λ k h. of_kind kind 72 m bytes k (bare_takes Flush 72 bytes m tt refl refl h)) (λ e.
    pick (eqb kind 83) _ _ m e (λ k h. of_kind kind 83 m bytes k (bare_takes Sync 83 bytes m tt refl refl h)) (λ e.
    pick (eqb kind 88) _ _ m e (λ k h. of_kind kind 88 m bytes k (bare_takes Terminate 88 bytes m tt refl refl h)) (λ e.
    pick (eqb kind 112) _ _ m e (λ k h. of_kind kind 112 m bytes k (password_takes bytes m fits h)) (λ e.
    absurd cc))))))))))

pub message_again : (m : Said) → IsSaid m → message_at (kind_of m) (body_of m) ≡ Ok m
unfolding message_at query_at parse_at bind_at describe_at close_at execute_at password_at
message_again (Query s) is = again_last texts (λ s. ended (Query s.0) s.1) s is
message_again (Parse n s ts) is =
    again_step texts (λ n. text_at n.1 >>= λ s. counted_at (number_at w32) s.1 >>= λ t. ended (Parse n.0 s.0 t.0) t.1) n (text s ++ counted word ts) is.0
    ∙ again_step texts (λ s. counted_at (number_at w32) s.1 >>= λ t. ended (Parse n s.0 t.0) t.1) s (counted word ts) is.1.0
    ∙ again_last (listed words) (λ t. ended (Parse n s t.0) t.1) ts is.1.1
message_again (Bind p s fs vs rs) is =
    again_step texts (λ p. text_at p.1 >>= λ s. counted_at (number_at w16) s.1 >>= λ fs. counted_at value_at fs.1 >>= λ vs. counted_at (number_at w16) vs.1 >>= λ rs. ended (Bind p.0 s.0 fs.0 vs.0 rs.0) rs.1) p (text s ++ (counted half fs ++ (counted value vs ++ counted half rs))) is.0
    ∙ again_step texts (λ s. counted_at (number_at w16) s.1 >>= λ fs. counted_at value_at fs.1 >>= λ vs. counted_at (number_at w16) vs.1 >>= λ rs. ended (Bind p s.0 fs.0 vs.0 rs.0) rs.1) s (counted half fs ++ (counted value vs ++ counted half rs)) is.1.0
    ∙ again_step (listed halves) (λ fs. counted_at value_at fs.1 >>= λ vs. counted_at (number_at w16) vs.1 >>= λ rs. ended (Bind p s fs.0 vs.0 rs.0) rs.1) fs (counted value vs ++ counted half rs) is.1.1.0
    ∙ again_step (listed values) (λ vs. counted_at (number_at w16) vs.1 >>= λ rs. ended (Bind p s fs vs.0 rs.0) rs.1) vs (counted half rs) is.1.1.1.0
    ∙ again_last (listed halves) (λ rs. ended (Bind p s fs vs rs.0) rs.1) rs is.1.1.1.1
message_again (Describe t n) is =
    again_step targets (λ t. text_at t.1 >>= λ n. ended (Describe t.0 n.0) n.1) t (text n) tt ∙ again_last texts (λ n. ended (Describe t n.0) n.1) n is
message_again (Execute p r) is =
    again_step texts (λ p. number_at w32 p.1 >>= λ r. ended (Execute p.0 r.0) r.1) p (word r) is.0 ∙ again_last words (λ r. ended (Execute p r.0) r.1) r is.1
message_again (Close t n) is =
    again_step targets (λ t. text_at t.1 >>= λ n. ended (Close t.0 n.0) n.1) t (text n) tt ∙ again_last texts (λ n. ended (Close t n.0) n.1) n is
message_again Flush is = refl
message_again Sync is = refl
message_again Terminate is = refl
message_again (Password k) is = again_last texts (λ s. ended (Password s.0) s.1) k is

pub is_found : (kind : ℕ) (bytes : List ℕ) (r : Result ClientMessage ReadError) → IsBytes bytes → Gives said r (message_at kind bytes) → IfOk r (λ m. IsSaid (said m) × (kind_of (said m) ≡ kind) × (body_of (said m) ≡ bytes))
is_found kind bytes (Ok m) fits given = let f = message_takes kind bytes (said m) fits given in (f.is_said, f.kind_is, f.body_is)
is_found kind bytes (Err e) fits given = tt
