-- Rows of lines beside the definitions.
use Rattle.std.specs.Prelude.{◌≡◌, Some, codes, refl}
use Rattle.mw_script.specs.Lines.{commit_line, crash_line, line_in}

pub a_crash : line_in (codes "crash") ≡ Some crash_line
a_crash = refl

pub a_commit : line_in (codes "commit") ≡ Some commit_line
a_commit = refl
