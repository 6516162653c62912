-- `complete::complete_node` meets its contract: two stores of what the children give.
use Rattle.table.proofs.complete.Laws.{nodes}
use Rattle.table.proofs.complete.complete_node.Goals as goal

pub kind_at-requires : goal.kind_at-requires
kind_at-requires c = search nodes

pub arity_of-requires : goal.arity_of-requires
arity_of-requires c = search nodes

pub children_of-s-requires : goal.children_of-s-requires
children_of-s-requires c = search nodes

pub first_of-requires : goal.first_of-requires
first_of-requires c = search nodes

pub overflow_mul-nodes : goal.overflow_mul-nodes
overflow_mul-nodes c = search nodes

pub overflow_add-nodes : goal.overflow_add-nodes
overflow_add-nodes c = search nodes

pub offset_bounds-nodes-i : goal.offset_bounds-nodes-i
offset_bounds-nodes-i c = search nodes

pub bounds-nodes-i : goal.bounds-nodes-i
bounds-nodes-i c = search nodes

pub depth_of-requires : goal.depth_of-requires
depth_of-requires c = search nodes

pub overflow_mul-nodes-2 : goal.overflow_mul-nodes-2
overflow_mul-nodes-2 c = search nodes

pub overflow_add-nodes-2 : goal.overflow_add-nodes-2
overflow_add-nodes-2 c = search nodes

pub offset_bounds-nodes-i-2 : goal.offset_bounds-nodes-i-2
offset_bounds-nodes-i-2 c = search nodes

pub bounds-nodes-i-2 : goal.bounds-nodes-i-2
bounds-nodes-i-2 c = search nodes

pub shape_of-nodes : goal.shape_of-nodes
shape_of-nodes c = search nodes

pub returns : goal.returns
returns c = search nodes
