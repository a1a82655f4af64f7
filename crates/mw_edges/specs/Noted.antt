-- What a writer shows that notes what it took.
use Rattle.std.specs.Prelude.{ℕ, List, [], ◌∷◌, ◌++◌}
use Rattle.mw_edges.specs.declared.noted.NotedWriter.{NotedWriter}

-- pieces joined, of which the newest comes first
abbrev pub joined : List (List ℕ) → List ℕ
joined [] = []
joined (piece ∷ pieces) = joined pieces ++ piece

-- the writer within
abbrev pub noted_of : {W : Type 0} → NotedWriter W → W
noted_of w = w.inner

-- the bytes that its calls answered that they took
abbrev pub noted_bytes : {W : Type 0} → NotedWriter W → List ℕ
noted_bytes w = joined w.taken
