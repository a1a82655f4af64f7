-- What a system tells, and what a folder over it.
use Rattle.std.proofs.Common.{◌≤◌, inl, inr, ℕ, List, length, None, Some, Option, refl, sym, subst}
use Rattle.mw_edges.specs.Files.{open_file}
use Rattle.mw_edges.specs.Folders.{GivesFile, opened_bytes, StaysOrIsMade, ReadsFile}
use Rattle.mw_edges.specs.declared.folder.FileRead.{FileRead}
use Rattle.mw_edges.specs.declared.folder.FileRead.TheVariants.{Whole, Longer}

-- what is read of an open file is what the file holds
pub read_as : (told : Option (Option (List ℕ))) (reader : Option (List ℕ)) (limit : ℕ) (read : FileRead) → ReadsFile told reader
    → GivesFile (open_file reader) limit read → GivesFile told limit read
read_as None None limit read reads gives = gives
read_as None (Some bytes) limit (Whole got) reads gives = subst (λ l. length l ≤ limit) (sym gives.0) gives.1
read_as None (Some bytes) limit Longer reads gives = tt
read_as (Some None) reader limit read reads gives = absurd reads
read_as (Some (Some bytes)) reader limit read reads gives =
    subst (λ r. GivesFile (open_file r) limit read) reads gives

-- a file that was opened stays, or was made
pub opened_kept : (old : Option (Option (List ℕ))) → StaysOrIsMade old (open_file (opened_bytes old))
opened_kept None = inl refl
opened_kept (Some None) = inr (refl, refl)
opened_kept (Some (Some bytes)) = inl refl
