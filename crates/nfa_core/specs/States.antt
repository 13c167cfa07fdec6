-- What contracts see of a state, and the memory that it is taken to need.
use Rattle.std.specs.Prelude.{ℕ, ◌+◌, ◌*◌, Bool, true, false, length, map}
use Rattle.nfa_core.specs.Nfa.{Node, byte_range, sparse_node, dense_node, look_node, union_node, binary_union, capture_node, fail_node}
use Rattle.nfa_core.specs.Nfa.{match_node}
use Rattle.nfa_core.specs.Transitions.{range_of}
use Rattle.nfa_core.specs.declared.state.State.{State}
use Rattle.nfa_core.specs.declared.state.State.TheVariants.{ByteRange, Sparse, Dense, Look, Union, BinaryUnion, Capture, Fail, Match}

abbrev pub node_of : State → Node
node_of (ByteRange t) = byte_range t.start t.end t.next
node_of (Sparse s) = sparse_node (map range_of s.transitions.items)
node_of (Dense d) = dense_node d.transitions.value
node_of (Look look next) = look_node look next
node_of (Union alternates) = union_node alternates.items
node_of (BinaryUnion first second) = binary_union first second
node_of (Capture next pattern group slot) = capture_node next pattern group slot
node_of Fail = fail_node
node_of (Match pattern) = match_node pattern

-- whether the state leads on without a byte
abbrev pub is_epsilon : Node → Bool
is_epsilon (look_node look next) = true
is_epsilon (union_node names) = true
is_epsilon (binary_union first second) = true
is_epsilon (capture_node next pattern group slot) = true
is_epsilon _ = false

-- the bytes of a state's list: 8 for each range, 1024 for a table, 4 for each name of a union
abbrev pub list_memory : Node → ℕ
list_memory (sparse_node ranges) = 8 * length ranges
list_memory (dense_node names) = 1024
list_memory (union_node names) = 4 * length names
list_memory _ = 0

-- the bytes of a state: 24 for itself, and those of its list
abbrev pub node_memory : Node → ℕ
node_memory node = 24 + list_memory node
