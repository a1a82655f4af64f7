-- What a crash may leave of a journal to which a batch is appended.
use Rattle.std.specs.Prelude.{◌≡◌, ◌⊎◌, ◌<◌, ◌≤◌, ◌^◌, ℕ, ◌+◌, List, ◌∷◌, ◌++◌, length}
use Rattle.std.specs.List.{concat}
use Rattle.mw_journal.specs.Image.{measured, Begins, IsShut}

-- a batch is whole behind the last gate of a text, with a next gate 0, whatever the last gate holds
pub record IsStaged (image digest text body : List ℕ) (place : ℕ) : Type 0 where
  pub bodies : List (List ℕ)
  pub gate : ℕ
  pub rest : List ℕ
  pub begins : Begins image digest bodies place (gate ∷ measured body ++ 0 ∷ rest)
  pub some : 1 ≤ length body
  pub within : place + 5 + length body < 2 ^ 30
  pub joined : text ≡ concat bodies

-- an image stands for a text with 0 at its first gate that isn't open, or a batch is staged behind
-- that text: then it stands for the text, or, where the gate is open, for the text and the batch
abbrev pub IsSettled : List ℕ → List ℕ → List ℕ → List ℕ → Type 0
IsSettled image digest text body =
    ((place : ℕ) × IsShut image digest text place 0)
    ⊎ ((place : ℕ) × IsStaged image digest text body place)

-- each image of a disk stands for a text, with 0 at its first gate that isn't open, at a place
abbrev pub AllShut : (List ℕ → Type 0) → List ℕ → List ℕ → ℕ → Type 0
AllShut images digest text place = (c : List ℕ) → images c → IsShut c digest text place 0

-- each image of a disk is settled for a text and a batch
abbrev pub AllSettled : (List ℕ → Type 0) → List ℕ → List ℕ → List ℕ → Type 0
AllSettled images digest text body = (c : List ℕ) → images c → IsSettled c digest text body
