-- A first packet that is read is the one that was written, and what was written is read again.
use Rattle.std.proofs.Common.{◌≡◌, ℕ, ◌+◌, ◌*◌, ◌/◌, ◌%◌, ◌^◌, ◌<◌, Bool, true, false, cond, eqb, List, [], ◌∷◌, ◌++◌, length, Result, Ok, Err, refl, sym, ap, subst, ◌∙◌, arith}
use Rattle.std.specs.Prelude.{IfOk}
use Rattle.std.specs.Int.{w32}
use Rattle.std.specs.List.{flat_map, AllByRecursion}
use Rattle.std.proofs.lemmas.Bool.{eqb-true}
use Rattle.std.proofs.lemmas.List.{append-nil, length-append}
use Rattle.std.proofs.lemmas.List.Concat.{flat_map-cons}
use Rattle.sb_postgres.specs.declared.error.Fault.{Fault}
use Rattle.sb_postgres.specs.declared.error.ReadError.{ReadError}
use Rattle.sb_postgres.specs.declared.startup.StartupPacket.{StartupPacket}
use Rattle.sb_postgres.specs.Fields.{text, word}
use Rattle.sb_postgres.specs.Reading.{◌>>=◌, Gives, number_at, ended}
use Rattle.sb_postgres.specs.Startup.{Pair, parameter, IsParameter, Started, SslRequest, GssEncRequest, CancelRequest, Startup, started, body_of, IsStarted}
use Rattle.sb_postgres.specs.StartupReading.{parameters_at, cancel_at, session_at, startup_at}
use Rattle.sb_postgres.proofs.Takes.{IsBytes, bind_ok, Takes, words, not_eqb}
use Rattle.sb_postgres.proofs.Bodies.{step, ended_ok, last, more, again_step, again_last}
use Rattle.sb_postgres.proofs.Parameters.{parameters, parameters_take, parameters_again}

pub record IsWhole (p : Started) (bytes : List ℕ) : Type 0 where
  pub is_started : IsStarted p
  pub body_is : body_of p ≡ bytes

cancel_takes : (bytes rest : List ℕ) (p : Started) → Takes bytes (word 80_877_102) rest → cancel_at rest ≡ Ok p → IsWhole p bytes
unfolding cancel_at
cancel_takes bytes rest p front e =
    let a = step words (λ process. number_at w32 process.1 >>= λ key. ended (CancelRequest process.0 key.0) key.1) rest p front.rest_fits e in
    let b = step words (λ key. ended (CancelRequest a.0 key.0) key.1) a.1 p a.2.rest_fits a.4 in
    let z = ended_ok (CancelRequest a.0 b.0) b.1 p b.4 in
    let whole = more bytes (word 80_877_102) rest _ front (more rest (word a.0) a.1 _ a.2 (last a.1 (word b.0) b.1 b.2 z.0)) in
    subst (λ (p : Started). IsWhole p bytes) z.1 (record { is_started = (a.3, b.3); body_is = sym whole })

pick : {P : Type 0} (b : Bool) (x y : Result Started Fault) (p : Started) → cond b x y ≡ Ok p → (b ≡ true → x ≡ Ok p → P) → (b ≡ false → y ≡ Ok p → P) → P
pick true x y p e first second = first refl e
pick false x y p e first second = second refl e

session_takes : (bytes rest : List ℕ) (version : ℕ) (p : Started) → version < 2 ^ 32 → Takes bytes (word version) rest → session_at version rest ≡ Ok p → IsWhole p bytes
unfolding session_at
session_takes bytes rest version p lt front e =
    pick (eqb (version / 65_536) 3) _ _ p e (λ v h.
    let three : version / 65_536 ≡ 3 = eqb-true _ _ v in
    let is : 3 * 2 ^ 16 + version % 65_536 ≡ version = omega (arith, three) in
    let a = bind_ok (parameters_at (length rest) rest) (λ ps. ended (Startup (version % 65_536) ps.0) ps.1) p h in
    let t = parameters_take (length rest) rest a.0 front.rest_fits a.1 in
    let z = ended_ok (Startup (version % 65_536) a.0.0) a.0.1 p a.2 in
    let whole = more bytes (word version) rest _ front (last rest (parameters a.0.0) a.0.1 t.0 z.0) in
    let minor : version % 65_536 < 2 ^ 16 = omega arith in
    subst (λ (p : Started). IsWhole p bytes) z.1 (record { is_started = (minor, t.1); body_is = ap (λ (v : ℕ). word v ++ parameters a.0.0) is ∙ sym whole })) (λ v h. absurd cc)

bare_takes : (w : Started) (code : ℕ) (bytes rest : List ℕ) (p : Started) → IsStarted w → body_of w ≡ word code → Takes bytes (word code) rest → ended w rest ≡ Ok p → IsWhole p bytes
bare_takes w code bytes rest p is b front e =
    let z = ended_ok w rest p e in
    subst (λ (p : Started). IsWhole p bytes) z.1 (record { is_started = is; body_is = b ∙ sym (last bytes (word code) rest front z.0) })

of_code : (bytes rest : List ℕ) (code k : ℕ) → eqb code k ≡ true → Takes bytes (word code) rest → Takes bytes (word k) rest
of_code bytes rest code k t front = subst (λ (n : ℕ). Takes bytes (word n) rest) (eqb-true _ _ t) front

pub startup_takes : (bytes : List ℕ) (p : Started) → IsBytes bytes → startup_at bytes ≡ Ok p → IsWhole p bytes
unfolding startup_at
startup_takes bytes p fits e =
    let a = bind_ok (number_at w32 bytes) (λ code. cond (eqb code.0 80_877_102) (cancel_at code.1) (cond (eqb code.0 80_877_103) (ended SslRequest code.1) (cond (eqb code.0 80_877_104) (ended GssEncRequest code.1) (session_at code.0 code.1)))) p e in
    let code = a.0.0 in
    let t = words.takes bytes code a.0.1 fits a.1 in
    pick (eqb code 80_877_102) _ _ p a.2 (λ k h. cancel_takes bytes a.0.1 p (of_code bytes a.0.1 code 80_877_102 k t.0) h) (λ k e.
    pick (eqb code 80_877_103) _ _ p e (λ k h. bare_takes SslRequest 80_877_103 bytes a.0.1 p tt refl (of_code bytes a.0.1 code 80_877_103 k t.0) h) (λ k e.
    pick (eqb code 80_877_104) _ _ p e (λ k h. bare_takes GssEncRequest 80_877_104 bytes a.0.1 p tt refl (of_code bytes a.0.1 code 80_877_104 k t.0) h) (λ k h.
    session_takes bytes a.0.1 code p t.1 t.0 h)))

-- ---- again

abbrev by_code : ℕ × List ℕ → Result Started Fault
by_code code = cond (eqb code.0 80_877_102) (cancel_at code.1) (cond (eqb code.0 80_877_103) (ended SslRequest code.1) (cond (eqb code.0 80_877_104) (ended GssEncRequest code.1) (session_at code.0 code.1)))

fewer : (ps : List Pair) → AllByRecursion IsParameter ps → length ps < length (parameters ps)
fewer [] fits = omega arith
fewer (p ∷ ps) fits = let h = fewer ps fits.1 in rw flat_map-cons (omega (arith, h, fits.0.0, length-append (parameter p) (flat_map parameter ps), length-append (parameter p ++ flat_map parameter ps) (0 ∷ []), length-append (flat_map parameter ps) (0 ∷ []), length-append (text p.0) (text p.1), length-append p.0 (0 ∷ [])))

session_again : (minor : ℕ) (ps : List Pair) → minor < 2 ^ 16 → AllByRecursion IsParameter ps → session_at (3 * 2 ^ 16 + minor) (parameters ps) ≡ Ok (Startup minor ps)
unfolding session_at
session_again minor ps lt fits =
    let three : (3 * 2 ^ 16 + minor) / 65_536 ≡ 3 = omega arith in
    let is : (3 * 2 ^ 16 + minor) % 65_536 ≡ minor = omega arith in
    let again : parameters_at (length (parameters ps)) (parameters ps) ≡ Ok (ps, []) = ap (parameters_at (length (parameters ps))) (sym (append-nil (parameters ps))) ∙ parameters_again (length (parameters ps)) ps [] (fewer ps fits) fits in
    rw (three, is, again) refl

pub startup_again : (p : Started) → IsStarted p → startup_at (body_of p) ≡ Ok p
unfolding startup_at cancel_at
startup_again SslRequest is = refl
startup_again GssEncRequest is = refl
startup_again (CancelRequest process key) is =
    again_step words by_code 80_877_102 (word process ++ word key) (omega arith)
    ∙ again_step words (λ process. number_at w32 process.1 >>= λ key. ended (CancelRequest process.0 key.0) key.1) process (word key) is.0
    ∙ again_last words (λ key. ended (CancelRequest process key.0) key.1) key is.1
startup_again (Startup minor ps) is =
    let version = 3 * 2 ^ 16 + minor in
    let not_cancel : eqb version 80_877_102 ≡ false = not_eqb _ _ (λ e. omega (arith, e, is.0)) in
    let not_ssl : eqb version 80_877_103 ≡ false = not_eqb _ _ (λ e. omega (arith, e, is.0)) in
    let not_gss : eqb version 80_877_104 ≡ false = not_eqb _ _ (λ e. omega (arith, e, is.0)) in
    again_step words by_code version (parameters ps) (omega (arith, is.0)) ∙ rw (not_cancel, not_ssl, not_gss) (session_again minor ps is.0 is.1)

pub is_found : (bytes : List ℕ) (r : Result StartupPacket ReadError) → IsBytes bytes → Gives started r (startup_at bytes) → IfOk r (λ p. IsStarted (started p) × (body_of (started p) ≡ bytes))
is_found bytes (Ok p) fits given = let f = startup_takes bytes (started p) fits given in (f.is_started, f.body_is)
is_found bytes (Err e) fits given = tt
