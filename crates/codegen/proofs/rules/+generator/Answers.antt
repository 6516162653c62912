-- What the rules say at their returns, and what the calls ask that the search does not find: each by the law of its rule.
use mathlib.Core.Path.{refl, sym, ◌∙◌}
use borrow.Author.Rules.{rules}
use Rattle.codegen.proofs.Parts.{listed, rest-room, front_kept, rest-kept, restored, restored-length, beq_same}
use Rattle.codegen.proofs.Branches.{not-branch, junction-stop, junction-branch, one-branch, pair-stop, pair-branch}
use Rattle.codegen.proofs.Values.{leaf-value, fold-value, two-stop, two-value, into-value, cond-stop, cond-refused, cond_value}
use Rattle.codegen.proofs.Values.{arms-stop, arms-turned, arms-value, ternary-stop, ternary-refused, ternary-value}
use Rattle.codegen.proofs.Walk.{steps, under, over-unary, op-over-two, cond-over-jumps, ready-dest, ready-child, child-jumps, picked_both, picked-one, pair-kind, test-over-pair}
use Rattle.codegen.proofs.rules.+generator.Goals as goal

pub gen_arms-returns-in_err-s : goal.gen_arms-returns-in_err-s
gen_arms-returns-in_err-s t c = arms-stop _ _ _ _ c.child_2.ensures (rest-room c.args.n c.args.jumps.now c.requires.2 refl) c.gen_into.ensures c.in_err-s.was (search rules)

pub gen_arms-returns-in_err-t : goal.gen_arms-returns-in_err-t
gen_arms-returns-in_err-t t c =
    arms-turned _ _ _ _ c.child_2.ensures (rest-room c.args.n c.args.jumps.now c.requires.2 refl) c.gen_into.ensures c.in_ok-s.was
    (front_kept c.args.n c.args.jumps.now c.gen_into.new.jumps c.requires.2) c.turn.ensures c.in_err-t.was (search rules)

pub gen_arms-returns : goal.gen_arms-returns
gen_arms-returns t c =
    arms-value _ _ _ _ c.child_2.ensures (rest-room c.args.n c.args.jumps.now c.requires.2 refl) c.gen_into.ensures c.in_ok-s.was
    (front_kept c.args.n c.args.jumps.now c.gen_into.new.jumps c.requires.2) c.turn.ensures c.in_ok-t.was c.child_1.ensures
    (restored-length c.args.n c.args.jumps.now c.gen_into.new.jumps c.requires.2 c.gen_into.auto.jumps) c.gen_into-x.ensures c.settle.ensures

pub gen_code_inner-returns-then-k-le-REF : goal.gen_code_inner-returns-then-k-le-REF
gen_code_inner-returns-then-k-le-REF t c = leaf-value c.requires _ _ (under c.kind_at-k.ensures c.if-k-le-REF.true) c.gen_value.ensures

pub gen_cond_value-returns-in_err-d : goal.gen_cond_value-returns-in_err-d
gen_cond_value-returns-in_err-d t c = cond-stop c.requires.0 _ _ c.requires.1 c.dest.ensures c.in_err-d.was (search rules)

pub gen_cond_value-gen_jumps-requires : goal.gen_cond_value-gen_jumps-requires
gen_cond_value-gen_jumps-requires t c = (cond-over-jumps c.args.nodes.now c.args.i t c.decreases c.requires.1.0 c.requires.1.1, ready-dest c.requires.0 _ c.dest.ensures c.in_ok-d.was)

pub gen_cond_value-returns-in_err-n : goal.gen_cond_value-returns-in_err-n
gen_cond_value-returns-in_err-n t c = cond-refused c.requires.0 _ _ c.requires.1 c.dest.ensures c.in_ok-d.was c.gen_jumps.ensures c.in_err-n.was (search rules)

pub gen_cond_value-returns : goal.gen_cond_value-returns
gen_cond_value-returns t c = cond_value c.requires.0 _ _ c.requires.1 c.dest.ensures c.in_ok-d.was c.gen_jumps.ensures c.in_ok-n.was c.gen_bool.ensures

pub gen_into-returns : goal.gen_into-returns
gen_into-returns t c = search (into-value, steps)

pub gen_junction-returns-in_err-n : goal.gen_junction-returns-in_err-n
gen_junction-returns-in_err-n t c = junction-stop c.requires.0 _ _ c.requires.1 c.child_2.ensures c.gen_jumps.ensures c.in_err-n.was (search rules)

pub gen_junction-returns : goal.gen_junction-returns
gen_junction-returns t c =
    let h = listed c.in_ok-n.was c.gen_jumps.ensures in
    let m = c.gen_jumps-x.new.jumps in
    junction-branch c.requires.0 _ _ c.requires.1 c.child_2.ensures c.gen_jumps.ensures c.in_ok-n.was c.child_1.ensures
    (rest-room _ _ h c.gen_jumps.auto.jumps) c.gen_jumps-x.ensures (restored c.in_ok-n.n c.gen_jumps.new.jumps m) (front_kept _ _ m h)
    (rest-kept _ _ m h) (beq_same c.args.sense c.args.by) c.join.ensures

pub gen_not-returns : goal.gen_not-returns
gen_not-returns t c = search (not-branch, steps)

pub gen_operator-gen_two-requires : goal.gen_operator-gen_two-requires
gen_operator-gen_two-requires t c =
    let g = sym c.fold_of.ensures ∙ c.in_default.is in
    (op-over-two c.args.nodes.now c.args.i t c.decreases, (c.requires.0, (over-unary c.requires.0 c.requires.1.0 g, c.requires.1.1, g)))

pub gen_operator-returns : goal.gen_operator-returns
gen_operator-returns t c = fold-value c.requires.0 _ _ c.operand_of-j.ensures (sym c.fold_of.ensures ∙ c.in-Some.is) c.gen_operand-x.ensures c.put_tail.ensures

pub gen_pair-returns-in_err-a : goal.gen_pair-returns-in_err-a
gen_pair-returns-in_err-a t c = pair-stop c.requires.0 _ _ c.requires.1 c.child_2.ensures c.gen_operand.ensures _ c.in_err-a.was (search rules)

pub gen_pair-returns : goal.gen_pair-returns
gen_pair-returns t c =
    pair-branch c.requires.0 _ _ c.requires.1 c.child_2.ensures c.gen_operand.ensures c.in_ok-a.was c.child_1.ensures c.gen_operand.auto.jumps
    c.gen_operand-x.ensures (c.gen_operand-x.auto.jumps ∙ c.gen_operand.auto.jumps) c.kind_at.ensures c.cmp_branch.ensures c.jump_pair.ensures

pub gen_ternary-returns-in_err-d : goal.gen_ternary-returns-in_err-d
gen_ternary-returns-in_err-d t c = ternary-stop c.requires.0 _ _ c.requires.1 c.dest.ensures c.in_err-d.was (search rules)

pub gen_ternary-gen_jumps-requires : goal.gen_ternary-gen_jumps-requires
gen_ternary-gen_jumps-requires t c =
    (child-jumps 2 c.decreases _ _ _ c.child_3.ensures c.requires.0, ready-child (ready-dest c.requires.0 _ c.dest.ensures c.in_ok-d.was) c.child_3.ensures)

pub gen_ternary-returns-in_err-n : goal.gen_ternary-returns-in_err-n
gen_ternary-returns-in_err-n t c = ternary-refused c.requires.0 _ _ c.requires.1 c.dest.ensures c.in_ok-d.was c.child_3.ensures c.gen_jumps.ensures c.in_err-n.was (search rules)

pub gen_ternary-returns : goal.gen_ternary-returns
gen_ternary-returns t c =
    ternary-value c.requires.0 _ _ c.requires.1 c.dest.ensures c.in_ok-d.was c.child_3.ensures c.gen_jumps.ensures c.in_ok-n.was c.gen_jumps.auto.jumps c.gen_arms.ensures

pub gen_test-gen_pair-requires : goal.gen_test-gen_pair-requires
gen_test-gen_pair-requires t c =
    let p = picked_both _ _ _ c.in_default.is c.test_of.ensures in
    let k = pair-kind c.requires.0 _ p in
    (test-over-pair c.args.nodes.now c.args.i t c.decreases, (c.requires.0, (k.0, k.1, p)))

pub gen_test-returns : goal.gen_test-returns
gen_test-returns t c =
    one-branch c.requires.0 _ _ c.requires.1 _ (picked-one _ _ _ c.in-Some.is c.test_of.ensures).0 c.gen_operand-x.ensures c.gen_operand-x.auto.jumps c.jump_one.ensures

pub gen_two-returns-in_err-a : goal.gen_two-returns-in_err-a
gen_two-returns-in_err-a t c = two-stop c.requires.0 _ _ c.requires.1 c.child_2.ensures c.gen_operand.ensures c.in_err-a.was (search rules)

pub gen_two-returns : goal.gen_two-returns
gen_two-returns t c =
    two-value c.requires.0 _ _ c.requires.1 c.child_2.ensures c.gen_operand.ensures c.in_ok-a.was c.child_1.ensures c.gen_operand.auto.jumps c.gen_operand-x.ensures
    c.kind_at.ensures c.three_of.ensures c.put_three.ensures
