use Rattle.std.proofs.Common.{ℕ, List, length, sym, ap, subst, arith, Result, Ok, Err, OnErr}
use Rattle.std.proofs.lemmas.Result.{on_ok_weaker}
use Rattle.sb_rawlog.specs.Places.{AreFree}
use Rattle.sb_rawlog.proofs.Free.{free_kept, rewound}
use Rattle.sb_rawlog.proofs.places.add_places.Goals as goal

whatever : {E P : Type 0} (r : Result (Unit {0}) E) → P → OnErr r P
whatever (Ok u) p = tt
whatever (Err e) p = p

pub overflow_sub-spare : goal.overflow_sub-spare
overflow_sub-spare c =
    let now = rewound c.args.free.now.items c.rewind.new.free.items c.args.used.now c.rewind.new.used c.args.arena.now c.rewind.ensures.places c.requires.fewer c.requires.empty c.requires.free in
    omega (arith, now.0.within)

pub grow-requires-clause-fewer : goal.grow-requires-clause-fewer
grow-requires-clause-fewer c =
    let now = rewound c.args.free.now.items c.rewind.new.free.items c.args.used.now c.rewind.new.used c.args.arena.now c.rewind.ensures.places c.requires.fewer c.requires.empty c.requires.free in
    omega (arith, now.0.within, now.1.0)

pub returns-then-n-spare-clause-free : goal.returns-then-n-spare-clause-free
returns-then-n-spare-clause-free c =
    let now = rewound c.args.free.now.items c.rewind.new.free.items c.args.used.now c.rewind.new.used c.args.arena.now c.rewind.ensures.places c.requires.fewer c.requires.empty c.requires.free in
    let add = c.grow.ensures in
    subst (λ (l : List ℕ). AreFree l c.rewind.new.used c.grow.new.arena) (sym add.free)
    (free_kept c.rewind.new.free.items c.rewind.new.used c.args.arena.now c.grow.new.arena add.same (omega (arith, now.0.within, add.longer)) now.0)

pub returns-then-n-spare-clause-in_use : goal.returns-then-n-spare-clause-in_use
returns-then-n-spare-clause-in_use c =
    let now = rewound c.args.free.now.items c.rewind.new.free.items c.args.used.now c.rewind.new.used c.args.arena.now c.rewind.ensures.places c.requires.fewer c.requires.empty c.requires.free in
    omega (arith, now.1.1, ap length c.grow.ensures.free)

pub returns-then-n-spare-clause-ok : goal.returns-then-n-spare-clause-ok
returns-then-n-spare-clause-ok c =
    let now = rewound c.args.free.now.items c.rewind.new.free.items c.args.used.now c.rewind.new.used c.args.arena.now c.rewind.ensures.places c.requires.fewer c.requires.empty c.requires.free in
    on_ok_weaker c.grow.result (λ ok. omega (arith, ok, now.0.within, now.1.0, c.grow.ensures.longer, ap length c.grow.ensures.free)) c.grow.ensures.ok

pub returns-then-n-spare-clause-err : goal.returns-then-n-spare-clause-err
returns-then-n-spare-clause-err c =
    let now = rewound c.args.free.now.items c.rewind.new.free.items c.args.used.now c.rewind.new.used c.args.arena.now c.rewind.ensures.places c.requires.fewer c.requires.empty c.requires.free in
    whatever c.grow.result (omega (arith, now.1.1, now.0.within, c.requires.free.within, c.grow.ensures.longer, ap length c.grow.ensures.free))

pub returns-clause-free : goal.returns-clause-free
returns-clause-free c =
    let now = rewound c.args.free.now.items c.rewind.new.free.items c.args.used.now c.rewind.new.used c.args.arena.now c.rewind.ensures.places c.requires.fewer c.requires.empty c.requires.free in
    now.0

pub returns-clause-in_use : goal.returns-clause-in_use
returns-clause-in_use c =
    let now = rewound c.args.free.now.items c.rewind.new.free.items c.args.used.now c.rewind.new.used c.args.arena.now c.rewind.ensures.places c.requires.fewer c.requires.empty c.requires.free in
    omega (arith, now.1.1)

pub returns-clause-ok : goal.returns-clause-ok
returns-clause-ok c =
    let now = rewound c.args.free.now.items c.rewind.new.free.items c.args.used.now c.rewind.new.used c.args.arena.now c.rewind.ensures.places c.requires.fewer c.requires.empty c.requires.free in
    omega (arith, now.0.within, now.1.0)
