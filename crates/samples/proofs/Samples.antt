-- The starred samples hold: one list, one claim, by computation.
use mathlib.Core.Path.{◌≡◌, refl}
use mathlib.Core.List.{List, [], ◌∷◌, map}
use Prim.Native.Nat.{ℕ, zero, suc, ◌<◌, ◌^◌}
use native.Mathlib.Omega.{arith}
use lib.IntN.{pos}
use lib.ListN.{get_or}
use Rattle.faults.specs.Faults as Faults
use Rattle.table.specs.Table as Table
use Rattle.table.specs.Tree as Tree
use Rattle.insns.specs.Fields as Fields
use Rattle.insns.specs.Bits as Bits
use Rattle.decode.specs.Decode as Decode
use Rattle.decode.specs.Patch as Patch
use Rattle.value.specs.Value as Val
use Rattle.value.specs.Answer as Answer
use Rattle.ops.specs.Arith as Arith
use Rattle.ops.specs.Compare as Compare
use Rattle.float.specs.Standing as Standing
use Rattle.int64.specs.Sign as Sign
use Rattle.ops.specs.Not as Not
use Rattle.int64.specs.Order as Order
use Rattle.int64.specs.Int as I
use Rattle.int64.specs.Exact as Exact
use Rattle.float.specs.Float as F
use Rattle.float.specs.Bits as FBits
use Rattle.float.specs.Order.{order}
use Rattle.eval.specs.Eval as Eval
use Rattle.eval.specs.Apply as Apply
use Rattle.eval.specs.Evaluate as Evaluate
use Rattle.emit.specs.State as State
use Rattle.emit.specs.Jump as Jump
use Rattle.fold.specs.Fold as Fold
use Rattle.fold.specs.Literal as Literal
use Rattle.emit.specs.Steps as Steps
use Rattle.codegen.specs.Gen as Gen
use Rattle.compile.specs.Compile as Compile
use Rattle.effect.specs.Effect as Effect
use Rattle.machine.specs.Step as Step
use Rattle.machine.specs.Run as Run
use Rattle.samples.specs.Samples.{samples, nots_from, refused, unstarred, sharing}

pub samples-hold : map (λ (x : List ℕ × List ℕ). x.0) samples ≡ map (λ (x : List ℕ × List ℕ). x.1) samples
unfolding Faults.fault Faults.◌or_else◌ Table.temp_base_of Table.arity Table.children Table.span_fault Table.node_fault Table.nodes_fault Table.shape_fault Table.layout_fault Table.dest_fault Table.last_fault Table.check_of Tree.kind_of Tree.build Tree.tree_at Tree.tree Bits.twos Bits.is_raw Fields.raw_bits Fields.word_if Decode.signed Decode.whole Decode.if_raw Decode.decode_of Patch.aim_word Patch.patch_of Patch.patch_all Val.of_pair Val.all_well Val.datums Answer.is_number Arith.of_numbers Arith.from_int Arith.arith_of Standing.standing Sign.negative Compare.mixed Compare.compare_numbers Compare.compare_of Not.not_of Not.negate Order.holds Exact.in_range I.checked I.exact Exact.arith I.operate FBits.read F.halvings F.to_nearest F.rounded order F.of_int Eval.leaf_of Eval.unary_of Eval.cmp_of Apply.on Apply.both Apply.whether Eval.binary_of Eval.eval_of Evaluate.locals_fault Evaluate.unless Evaluate.evaluate_of State.alloc_d State.dest_d State.seek State.slot_d State.store_d Jump.patched_d Jump.leap_d Literal.bits Literal.run_at Literal.run_from Literal.bit_run Literal.lit_of Fold.shift_by Fold.shifted_by Fold.fold_by Steps.put_d Steps.const_to Steps.const_d Steps.leaf_d Steps.put_to Steps.move_to Jump.leap_to Jump.turn_d Gen.leaf_v Gen.one_v Gen.two_v Gen.binary_v Gen.into_d Gen.arms_d Gen.ternary_v Gen.one_b Gen.pair_b Gen.compare_b Gen.gen Compile.root_d Compile.generated Compile.compile_of Effect.held Effect.both Effect.raw_of Effect.inverted Step.land_of Step.word_effect Step.step_of Run.run_from Run.run_of
samples-hold = refl

-- each number of compile has a table
pub refused-hold : map (λ (x : List ℕ × List ℕ). x.0) refused ≡ map (λ (x : List ℕ × List ℕ). x.1) refused
unfolding nots_from Faults.fault Faults.◌or_else◌ Table.temp_base_of Table.arity Table.children Table.span_fault Table.node_fault Table.nodes_fault Table.shape_fault Table.layout_fault Table.dest_fault Table.last_fault Table.check_of Tree.kind_of Tree.build Tree.tree_at Tree.tree Bits.twos Bits.is_raw Fields.raw_bits Fields.word_if Decode.signed Decode.whole Decode.if_raw Decode.decode_of Patch.aim_word Patch.patch_of Patch.patch_all State.alloc_d State.dest_d State.seek State.slot_d State.store_d Jump.patched_d Jump.leap_d Literal.bits Literal.run_at Literal.run_from Literal.bit_run Literal.lit_of Fold.shift_by Fold.shifted_by Fold.fold_by Steps.put_d Steps.const_to Steps.const_d Steps.leaf_d Steps.put_to Steps.move_to Jump.leap_to Jump.turn_d Gen.leaf_v Gen.one_v Gen.two_v Gen.binary_v Gen.into_d Gen.arms_d Gen.ternary_v Gen.one_b Gen.pair_b Gen.compare_b Gen.gen Compile.root_d Compile.generated Compile.compile_of
refused-hold = refl

pub unstarred-hold : map (λ (x : List ℕ × List ℕ). x.0) unstarred ≡ map (λ (x : List ℕ × List ℕ). x.1) unstarred
unfolding nots_from I.shl Arith.whole_of Eval.arith_of Faults.fault Faults.◌or_else◌ Table.temp_base_of Table.arity Table.children Table.span_fault Table.node_fault Table.nodes_fault Table.shape_fault Table.layout_fault Table.dest_fault Table.last_fault Table.check_of Tree.kind_of Tree.build Tree.tree_at Tree.tree Bits.twos Bits.is_raw Fields.raw_bits Fields.word_if Decode.signed Decode.whole Decode.if_raw Decode.decode_of Patch.aim_word Patch.patch_of Patch.patch_all Val.of_pair Val.all_well Val.datums Answer.is_number Arith.of_numbers Arith.from_int Arith.arith_of Standing.standing Sign.negative Compare.mixed Compare.compare_numbers Compare.compare_of Not.not_of Not.negate Order.holds Exact.in_range I.checked I.exact Exact.arith I.operate FBits.read F.halvings F.to_nearest F.rounded order F.of_int Eval.leaf_of Eval.unary_of Eval.cmp_of Apply.on Apply.both Apply.whether Eval.binary_of Eval.eval_of Evaluate.locals_fault Evaluate.unless Evaluate.evaluate_of State.alloc_d State.dest_d State.seek State.slot_d State.store_d Jump.patched_d Jump.leap_d Literal.bits Literal.run_at Literal.run_from Literal.bit_run Literal.lit_of Fold.shift_by Fold.shifted_by Fold.fold_by Steps.put_d Steps.const_to Steps.const_d Steps.leaf_d Steps.put_to Steps.move_to Jump.leap_to Jump.turn_d Gen.leaf_v Gen.one_v Gen.two_v Gen.binary_v Gen.into_d Gen.arms_d Gen.ternary_v Gen.one_b Gen.pair_b Gen.compare_b Gen.gen Compile.root_d Compile.generated Compile.compile_of Effect.held Effect.both Effect.raw_of Effect.inverted Step.land_of Step.word_effect Step.step_of Run.run_from Run.run_of
unstarred-hold = refl

-- 02, W2
pub sharing-hold : map (λ (x : List ℕ × List ℕ). x.0) sharing ≡ map (λ (x : List ℕ × List ℕ). x.1) sharing
unfolding Faults.fault Faults.◌or_else◌ Table.temp_base_of Table.arity Table.children Table.span_fault Table.node_fault Table.nodes_fault Table.shape_fault Table.layout_fault Table.dest_fault Table.last_fault Table.check_of Tree.kind_of Tree.build Tree.tree_at Tree.tree Bits.twos Bits.is_raw Fields.raw_bits Fields.word_if Decode.signed Decode.whole Decode.if_raw Decode.decode_of Patch.aim_word Patch.patch_of Patch.patch_all State.alloc_d State.dest_d State.seek State.slot_d State.store_d Jump.patched_d Jump.leap_d Literal.bits Literal.run_at Literal.run_from Literal.bit_run Literal.lit_of Fold.shift_by Fold.shifted_by Fold.fold_by Steps.put_d Steps.const_to Steps.const_d Steps.leaf_d Steps.put_to Steps.move_to Jump.leap_to Jump.turn_d Gen.leaf_v Gen.one_v Gen.two_v Gen.binary_v Gen.into_d Gen.arms_d Gen.ternary_v Gen.one_b Gen.pair_b Gen.compare_b Gen.gen Compile.root_d Compile.generated Compile.compile_of
sharing-hold = refl
