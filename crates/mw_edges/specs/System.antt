-- What the forms over std show.
use Rattle.std.specs.Prelude.{ℕ, List, Bool, false, unwrap_or}
use Rattle.mw_edges.specs.Files.{entry_of}
use Rattle.mw_edges.specs.declared.reader.ReaderSource.{ReaderSource}
use Rattle.mw_edges.specs.declared.writer.WriterSink.{WriterSink}
use Rattle.mw_edges.specs.declared.system.SystemFolder.{SystemFolder}

-- the reader of a source
abbrev pub reader_of : {R : Type 0} → ReaderSource R → R
reader_of s = s.inner

-- how often a source over a reader has failed
abbrev pub reader_faults : {R : Type 0} → ReaderSource R → ℕ
reader_faults s = s.faults

-- the writer of a sink
abbrev pub writer_of : {W : Type 0} → WriterSink W → W
writer_of s = s.inner

-- how often a sink over a writer has failed
abbrev pub writer_faults : {W : Type 0} → WriterSink W → ℕ
writer_faults s = s.faults

-- the system of a folder
abbrev pub system_of : {S R W F : Type 0} → SystemFolder S R W F → S
system_of s = s.system

-- how often a folder of the system has failed
abbrev pub system_faults : {S R W F : Type 0} → SystemFolder S R W F → ℕ
system_faults s = s.faults

-- how often a folder of the system has refused to write a file
abbrev pub system_refusals : {S R W F : Type 0} → SystemFolder S R W F → ℕ
system_refusals s = s.refused

-- whether a disk of a name is open
abbrev pub is_open_file : {S R W F : Type 0} → SystemFolder S R W F → List ℕ → Bool
is_open_file s name = unwrap_or (entry_of s.opened.items name) false
