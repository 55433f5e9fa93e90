use native.Mathlib.Omega.{arith}
use mathlib.Core.Path.{refl}
use lib.ListN.{length}
use Rattle.print.specs.Print.{line_room, wear_room}
use Rattle.perform.proofs.Carrying.{carries}
use Rattle.interpret.proofs.carry.Goals as goal

pub returns-in-Wear : goal.returns-in-Wear
returns-in-Wear c =
    rw (c.in-Wear.is, c.printed.ensures)
    (carries {room = wear_room (length c.args.wear.now)} (let h = c.requires.wear-room in omega arith) refl
    c.put_wear.ensures)

pub returns-in-Bad : goal.returns-in-Bad
returns-in-Bad c =
    rw (c.in-Bad.is, c.printed-in-Bad.ensures)
    (carries {room = line_room} (omega arith) refl c.put_bad.ensures)
