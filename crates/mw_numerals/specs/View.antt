-- The meaning of a `Piece`.
use Rattle.mw_numerals.specs.Pieces.{Piece, quoted, cut, run, other}
use Rattle.mw_numerals.specs.declared.piece.Piece as code
use Rattle.mw_numerals.specs.declared.piece.Piece.TheVariants.{Quoted, Cut, Run, Other}

abbrev pub view : code.Piece → Piece
view (Quoted s) = quoted s.now
view (Cut s) = cut s.now
view (Run s) = run s.now
view (Other x) = other x
