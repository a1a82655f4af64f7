use Rattle.std.proofs.Common.{◌≡◌, ◌∙◌, ◌+◌, ◌-◌, ◌≤◌, ℕ, List, length, take, ap, arith, rules}
use Rattle.mw_disk.specs.Crash.{Torn}
use Rattle.mw_disk.specs.FileLogs.{FileLog, state_of, laid}
use Rattle.mw_disk.specs.FileRuns.{Runs}
use Rattle.mw_disk.proofs.FileRuns.{runs_then, runs_wider, torn_then, torn_within}
use Rattle.mw_disk.proofs.Ranges.{rest_from, rest-drop, within-rest, laid_more}
use Rattle.std.proofs.lemmas.List.{length-drop}
use Rattle.mw_disk.proofs.file_runs.write_all.Goals as goal

-- a write of the rest, within one of the whole
abbrev on : (at done from : ℕ) (bytes : List ℕ) (a b c : FileLog) → from ≡ at + done → done ≤ length bytes
    → Runs (Torn at (length bytes)) a b → Runs (Torn from (length (rest_from done bytes))) b c → Runs (Torn at (length bytes)) a c
on at done from bytes a b c is within first second =
    let size : length (rest_from done bytes) ≡ length bytes - done = ap length (rest-drop done bytes) ∙ length-drop done bytes in
    runs_then (Torn at (length bytes)) a b c (torn_then at (length bytes)) first
    (runs_wider (Torn from (length (rest_from done bytes))) (Torn at (length bytes)) b c
    (λ x y torn. torn_within at (length bytes) from (length (rest_from done bytes)) x y (omega arith) (omega arith) torn) second)

pub returns-in_err-count-clause-runs : goal.returns-in_err-count-clause-runs
returns-in_err-count-clause-runs g c =
    let log = g.C.FileCalls.log in
    let from : c.in-Some.from ≡ c.args.at + c.loop.done = search rules in
    on c.args.at c.loop.done c.in-Some.from c.args.bytes.now (log c.args.calls.now) (log c.loop.calls) (log c.write_some.new.calls) from
    c.loop.invariant.within c.loop.invariant.runs c.write_some.ensures.runs

pub returns-then-count-eq0-clause-runs : goal.returns-then-count-eq0-clause-runs
returns-then-count-eq0-clause-runs g c =
    let log = g.C.FileCalls.log in
    let from : c.in-Some.from ≡ c.args.at + c.loop.done = search rules in
    on c.args.at c.loop.done c.in-Some.from c.args.bytes.now (log c.args.calls.now) (log c.loop.calls) (log c.write_some.new.calls) from
    c.loop.invariant.within c.loop.invariant.runs c.write_some.ensures.runs

pub loop-preserved : goal.loop-preserved
loop-preserved g c =
    let log = g.C.FileCalls.log in
    let from : c.in-Some.from ≡ c.args.at + c.loop.done = search rules in
    let bytes = c.args.bytes.now in
    let start = (state_of (log c.args.calls.now)).bytes in
    record {
      within = within-rest c.loop.done c.in_ok-count.count bytes c.loop.invariant.within c.in_ok-count.ensures.bound;
      honest = c.write_some.ensures.honest ∙ c.loop.invariant.honest;
      runs = on c.args.at c.loop.done c.in-Some.from bytes (log c.args.calls.now) (log c.loop.calls) (log c.write_some.new.calls) from
          c.loop.invariant.within c.loop.invariant.runs c.write_some.ensures.runs;
      bytes = c.in_ok-count.ensures.bytes
          ∙ (λ i. laid (from i) (take c.in_ok-count.count (rest_from c.loop.done bytes)) (c.loop.invariant.bytes i))
          ∙ laid_more c.args.at c.loop.done c.in_ok-count.count bytes start c.loop.invariant.within;
    }
