-- The claim's premises can be met: sample 3 with a NaN, run.
use Rattle.std.specs.Prelude.{None}
use mathlib.Core.Path.{◌≡◌, refl}
use mathlib.Core.List.{List, [], ◌∷◌, map}
use Prim.Native.Nat.{ℕ, zero, suc, ◌<◌, ◌^◌}
use native.Mathlib.Omega.{arith}
use lib.IntN.{pos}
use lib.ListN.{get_or}
use Rattle.faults.specs.Faults as Faults
use Rattle.table.specs.Table as Table
use Rattle.table.specs.Tree as Tree
use Rattle.insns.specs.Fields as Fields
use Rattle.insns.specs.Bits as Bits
use Rattle.decode.specs.Decode as Decode
use Rattle.decode.specs.Patch as Patch
use Rattle.value.specs.Value as Val
use Rattle.value.specs.Answer as Answer
use Rattle.ops.specs.Arith as Arith
use Rattle.ops.specs.Compare as Compare
use Rattle.float.specs.Standing as Standing
use Rattle.int64.specs.Sign as Sign
use Rattle.ops.specs.Not as Not
use Rattle.int64.specs.Order as Order
use Rattle.int64.specs.Int as I
use Rattle.int64.specs.Exact as Exact
use Rattle.float.specs.Float as F
use Rattle.float.specs.Bits as FBits
use Rattle.float.specs.Order.{order}
use Rattle.eval.specs.Eval as Eval
use Rattle.eval.specs.Apply as Apply
use Rattle.eval.specs.Evaluate as Evaluate
use Rattle.emit.specs.State as State
use Rattle.emit.specs.Jump as Jump
use Rattle.fold.specs.Fold as Fold
use Rattle.fold.specs.Literal as Literal
use Rattle.emit.specs.Steps as Steps
use Rattle.codegen.specs.Gen as Gen
use Rattle.compile.specs.Compile as Compile
use Rattle.effect.specs.Effect as Effect
use Rattle.machine.specs.Step as Step
use Rattle.machine.specs.Run as Run
use Rattle.claim.specs.Claim.{Agrees, Accepted, Supplied}
use Rattle.samples.specs.Samples.{choice, nan}
use Rattle.claim.proofs.Theorem.{demand-3}

abbrev made : State.State
made =
    record {
      words = 0x0000020001000033 ∷ 0x04000203 ∷ 0x0000000000000141 ∷ 0x08000203 ∷ [];
      cap = 8;
      slots = [];
      slot_cap = 8;
      next = 3;
      frame = 3;
    }

accepted : Accepted choice 2 0 None 2 made
unfolding Faults.fault Faults.◌or_else◌ Table.temp_base_of Table.arity Table.children Table.span_fault Table.node_fault Table.nodes_fault Table.shape_fault Table.layout_fault Table.dest_fault Table.last_fault Table.check_of Tree.kind_of Tree.build Tree.tree_at Tree.tree Bits.twos Bits.is_raw Fields.raw_bits Fields.word_if Decode.signed Decode.whole Decode.if_raw Decode.decode_of Patch.aim_word Patch.patch_of Patch.patch_all State.alloc_d State.dest_d State.seek State.slot_d State.store_d Jump.patched_d Jump.leap_d Literal.bits Literal.run_at Literal.run_from Literal.bit_run Literal.lit_of Fold.shift_by Fold.shifted_by Fold.fold_by Steps.put_d Steps.const_to Steps.const_d Steps.leaf_d Steps.put_to Steps.move_to Jump.leap_to Jump.turn_d Gen.leaf_v Gen.one_v Gen.two_v Gen.binary_v Gen.into_d Gen.arms_d Gen.ternary_v Gen.one_b Gen.pair_b Gen.compare_b Gen.gen Compile.root_d Compile.generated Compile.compile_of
accepted = record { places = 8; cap = 8; slot_cap = 8; is = refl }

abbrev kinds : List ℕ
kinds = 3 ∷ 2 ∷ 0 ∷ []

abbrev payloads : List ℕ
payloads = nan ∷ 7 ∷ 0 ∷ []

wide : (i : ℕ) → get_or payloads i 0 < 2 ^ 64
wide zero = omega arith
wide (suc zero) = omega arith
wide (suc (suc zero)) = omega arith
wide (suc (suc (suc i))) = omega arith

supplied : Supplied made kinds payloads [] [] 4
unfolding Val.of_pair Val.all_well Val.datums
supplied =
    record {
      registers = record { well = refl; words = wide };
      room = omega arith;
      slots = record { values = record { well = refl; words = λ i. omega arith }; behind = []; front = refl };
      enough = omega arith;
    }

pub applied : Agrees None 2 2 made kinds payloads (Answer.is (Val.int (pos 2))) (Run.run_of made.words [] [] 4 0 kinds payloads)
unfolding Faults.fault Faults.◌or_else◌ Table.temp_base_of Table.arity Table.children Table.span_fault Table.node_fault Table.nodes_fault Table.shape_fault Table.layout_fault Table.dest_fault Table.last_fault Table.check_of Tree.kind_of Tree.build Tree.tree_at Tree.tree Val.of_pair Val.all_well Val.datums Answer.is_number Arith.of_numbers Arith.from_int Arith.arith_of Standing.standing Sign.negative Compare.mixed Compare.compare_numbers Compare.compare_of Not.not_of Order.holds Exact.in_range I.checked I.exact Exact.arith I.operate FBits.read F.halvings F.to_nearest F.rounded order F.of_int Eval.leaf_of Eval.unary_of Eval.cmp_of Apply.on Apply.both Apply.whether Eval.binary_of Eval.eval_of Evaluate.locals_fault Evaluate.unless Evaluate.evaluate_of
applied = (demand-3 choice 2 0 None 2 made accepted).agrees kinds payloads [] [] 4 supplied
