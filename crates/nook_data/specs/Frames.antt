use Rattle.std.specs.Prelude.{ℕ, Bool, true, false, List, [], ◌∷◌, Option, Some, None}

-- The frames that wait in a ring or a queue, the oldest first.

-- the first frame of a ring, or no words if it is empty
abbrev pub head_of : List (List ℕ) → List ℕ
head_of [] = []
head_of (frame ∷ ring) = frame

-- the frames after the first
abbrev pub tail_of : List (List ℕ) → List (List ℕ)
tail_of [] = []
tail_of (frame ∷ ring) = ring

-- there is no frame
abbrev pub is_empty : List (List ℕ) → Bool
is_empty [] = true
is_empty (frame ∷ frames) = false

-- the oldest frame of the kernel's queue, if any
abbrev pub front_of : List (List ℕ) → Option (List ℕ)
front_of [] = None
front_of (frame ∷ queue) = Some frame
