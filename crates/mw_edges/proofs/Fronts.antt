-- What is read of an open file up to one byte past a limit.
use Rattle.std.proofs.Common.{◌≡◌, ℕ, ◌<◌, ◌≤◌, List, [], ◌++◌, length, take, None, Some, IfSome, ap, subst, ◌∙◌, take_all, length-take, arith}
use Rattle.std.specs.Option.{option_map}
use Rattle.std.specs.declared.option.Option.{Option}
use Rattle.mw_edges.specs.Files.{open_file}
use Rattle.mw_edges.specs.Folders.{GivesFile}
use Rattle.mw_edges.specs.declared.folder.FileRead.TheVariants.{Whole}

-- bytes within the limit that stop before the front that was asked for are the file's
pub gives-whole : (left : Option (List ℕ)) (limit most : ℕ) (start read : List ℕ) → start ≡ []
    → IfSome (option_map (take most) left) (λ xs. read ≡ start ++ xs) → length read ≤ limit → length read < most
    → GivesFile (open_file left) limit (Whole read)
gives-whole None limit most start read empty front within before = within
gives-whole (Some xs) limit most start read empty front within before =
    let is_front : read ≡ take most xs = front ∙ ap (λ s. s ++ take most xs) empty in
    let few : length xs ≤ most = omega (arith, length-take most xs, ap length is_front, before) in
    let whole : read ≡ xs = is_front ∙ take_all most xs few in
    (whole, subst (λ l. length l ≤ limit) whole within)
