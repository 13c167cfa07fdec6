-- Bytes of states, worked out by hand.
use Rattle.std.proofs.Common.{◌≡◌, List, [], ◌∷◌, true, ℕ, refl}
use Rattle.determinize_core.specs.States.{dead}
use Rattle.determinize_core.specs.StateBytes.{encoded, decoded}

-- nine zeros, the start of most states
zeros : List ℕ
zeros = 0 ∷ 0 ∷ 0 ∷ 0 ∷ 0 ∷ 0 ∷ 0 ∷ 0 ∷ 0 ∷ []

dead_bytes : encoded dead ≡ 0 ∷ 0 ∷ 0 ∷ 0 ∷ 0 ∷ 0 ∷ 0 ∷ 0 ∷ 0 ∷ []
dead_bytes = refl

-- the start state of the automaton of `a`, and the states after `a` and after `b`
start_bytes : encoded (record dead { ids = 0 ∷ 2 ∷ 1 ∷ [] }) ≡ 0 ∷ 0 ∷ 0 ∷ 0 ∷ 0 ∷ 0 ∷ 0 ∷ 0 ∷ 0 ∷ 0 ∷ 4 ∷ 1 ∷ []
start_bytes = refl

behind_a : encoded (record dead { ids = 3 ∷ 0 ∷ 2 ∷ 1 ∷ [] }) ≡ 0 ∷ 0 ∷ 0 ∷ 0 ∷ 0 ∷ 0 ∷ 0 ∷ 0 ∷ 0 ∷ 6 ∷ 5 ∷ 4 ∷ 1 ∷ []
behind_a = refl

behind_b : encoded (record dead { matches = 0 ∷ [] }) ≡ 1 ∷ 0 ∷ 0 ∷ 0 ∷ 0 ∷ 0 ∷ 0 ∷ 0 ∷ 0 ∷ []
behind_b = refl

-- patterns 0 and 258, looks, and a state with a large number
all_parts : encoded (record {
  is_from_word = true;
  is_half_crlf = true;
  look_have = 260;
  look_need = 1;
  matches = 0 ∷ 258 ∷ [];
  ids = 200 ∷ [];
})
    ≡ 15 ∷ 4 ∷ 1 ∷ 0 ∷ 0 ∷ 1 ∷ 0 ∷ 0 ∷ 0 ∷ 2 ∷ 0 ∷ 0 ∷ 0 ∷ 0 ∷ 0 ∷ 0 ∷ 0 ∷ 2 ∷ 1 ∷ 0 ∷ 0 ∷ 144 ∷ 3 ∷ []
all_parts = refl

-- and back
read_start : (decoded (0 ∷ 0 ∷ 0 ∷ 0 ∷ 0 ∷ 0 ∷ 0 ∷ 0 ∷ 0 ∷ 0 ∷ 4 ∷ 1 ∷ [])).ids ≡ 0 ∷ 2 ∷ 1 ∷ []
read_start = refl

read_parts : (decoded (15 ∷ 4 ∷ 1 ∷ 0 ∷ 0 ∷ 1 ∷ 0 ∷ 0 ∷ 0 ∷ 2 ∷ 0 ∷ 0 ∷ 0 ∷ 0 ∷ 0 ∷ 0 ∷ 0 ∷ 2 ∷ 1 ∷ 0 ∷ 0 ∷ 144 ∷ 3 ∷ []))
    ≡ record { is_from_word = true; is_half_crlf = true; look_have = 260; look_need = 1; matches = 0 ∷ 258 ∷ []; ids = 200 ∷ [] }
read_parts = refl
