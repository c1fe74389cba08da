use Rattle.std.proofs.Common.{ℕ, List, length, sym, ap, subst, arith}
use Rattle.sb_rawlog.specs.Places.{AreFree}
use Rattle.sb_rawlog.proofs.Free.{free_kept, rewound}
use Rattle.sb_rawlog.proofs.places.spare_places.Goals as goal

pub shed-requires-clause-within : goal.shed-requires-clause-within
shed-requires-clause-within c =
    let now = rewound c.args.free.now.items c.rewind.new.free.items c.args.used.now c.rewind.new.used c.args.arena.now c.rewind.ensures.places c.requires.fewer c.requires.empty c.requires.free in
    (now.1.0, now.0.within)

pub shed-requires-clause-unused : goal.shed-requires-clause-unused
shed-requires-clause-unused c =
    let now = rewound c.args.free.now.items c.rewind.new.free.items c.args.used.now c.rewind.new.used c.args.arena.now c.rewind.ensures.places c.requires.fewer c.requires.empty c.requires.free in
    now.0.unused

pub shed-requires-clause-spare : goal.shed-requires-clause-spare
shed-requires-clause-spare c =
    let now = rewound c.args.free.now.items c.rewind.new.free.items c.args.used.now c.rewind.new.used c.args.arena.now c.rewind.ensures.places c.requires.fewer c.requires.empty c.requires.free in
    omega (arith, now.0.within)

pub returns-clause-free : goal.returns-clause-free
returns-clause-free c =
    let now = rewound c.args.free.now.items c.rewind.new.free.items c.args.used.now c.rewind.new.used c.args.arena.now c.rewind.ensures.places c.requires.fewer c.requires.empty c.requires.free in
    let cut = c.shed.ensures in
    subst (λ (l : List ℕ). AreFree l c.rewind.new.used c.shed.new.arena) (sym cut.free) (free_kept c.rewind.new.free.items c.rewind.new.used c.args.arena.now c.shed.new.arena cut.same cut.within now.0)

pub returns-clause-in_use : goal.returns-clause-in_use
returns-clause-in_use c =
    let now = rewound c.args.free.now.items c.rewind.new.free.items c.args.used.now c.rewind.new.used c.args.arena.now c.rewind.ensures.places c.requires.fewer c.requires.empty c.requires.free in
    omega (arith, now.1.1, ap length c.shed.ensures.free)
