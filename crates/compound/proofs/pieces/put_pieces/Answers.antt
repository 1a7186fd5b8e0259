use Rattle.std.proofs.Common.{rules, ◌<◌, arith}
use Rattle.tables.specs.Lent.{geometry_of}
use Rattle.store.specs.Whole.{whole}
use Rattle.compound.proofs.PieceLaws.{left-all, left-none, left-room, left-on}
use Rattle.compound.proofs.pieces.put_pieces.Goals as goal

pub loop-start-init : goal.loop-start-init
loop-start-init c = (omega arith, left-all _ _ _ _ _ _ c.requires.room)

pub put_piece-requires-clause-room : goal.put_piece-requires-clause-room
put_piece-requires-clause-room c =
    let pos : 0 < c.args.store.now.geometry.block_size = search rules in
    left-room (geometry_of c.args.store.now.geometry) (whole c.args.store.now) _ _ _ _ c.loop-start.invariant.1 pos c.requires.fits c.piece_end-stop.ensures

pub loop-start-preserved : goal.loop-start-preserved
loop-start-preserved c =
    let pos : 0 < c.args.store.now.geometry.block_size = search rules in (
      omega (arith, c.piece_end-stop.ensures.more, c.loop-start.invariant.0),
      left-on (geometry_of c.args.store.now.geometry) (whole c.args.store.now) _ _ _ _ c.loop-start.invariant.1 pos c.requires.fits c.piece_end-stop.ensures c.put_piece.ensures,
    )

pub returns-clause-number : goal.returns-clause-number
returns-clause-number c = (left-none _ _ _ _ _ _ c.loop-start.invariant.1 c.loop-start-test.false).0

pub returns-clause-written : goal.returns-clause-written
returns-clause-written c = (left-none _ _ _ _ _ _ c.loop-start.invariant.1 c.loop-start-test.false).1
