-- `operate_numbers` meets its contract: by how the operator goes about it, and whether both are Ints.
use Rattle.ops.specs.Code.{operate_of}
use Rattle.ops.specs.Arith.{whole_of}
use Rattle.ops.proofs.arith.Laws.{on-two-ints, on-floats, on-int-float, on-float-left}
use Rattle.ops.proofs.arith.operate_numbers.Goals as goal
use Rattle.ops.proofs.arith.operate_numbers.Goals.{in_default-via-in-Int+in_default, in_default-via-in_default}

pub returns-in-Floats : goal.returns-in-Floats
returns-in-Floats c = on-floats _ _ c.args.a c.args.b c.in-Floats.is c.floats.ensures

pub returns-in-Either : goal.returns-in-Either
returns-in-Either c = rw (c.in-Int-Int.is-0, c.in-Int-Int.is-1) (on-two-ints _ _ _ _ c.in-Either.is c.ints.ensures)

pub returns-in-Ints : goal.returns-in-Ints
unfolding operate_of whole_of
returns-in-Ints c = elim c.in_default.branch [
  | in_default-via-in-Int+in_default w ↦ rw (c.in-Ints.is, w.in_default.is-0, w.in_default.is-1)
  | in_default-via-in_default w ↦ rw (c.in-Ints.is, w.in_default.is-0)
]

pub returns-in-Either-how : goal.returns-in-Either-how
returns-in-Either-how c =
    let e = c.floats-in-Either-how.ensures in
    elim c.in_default.branch [
      | in_default-via-in-Int+in_default w ↦ rw (w.in_default.is-0, w.in_default.is-1) (on-int-float _ _ _ _ c.in-Either-how.is (rw (w.in_default.is-0, w.in_default.is-1) at e))
      | in_default-via-in_default w ↦ rw w.in_default.is-0 (on-float-left _ _ _ c.args.b c.in-Either-how.is (rw w.in_default.is-0 at e))
    ]
