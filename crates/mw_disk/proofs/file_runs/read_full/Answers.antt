use Rattle.std.proofs.Common.{◌≡◌, ◌∙◌, ◌+◌, ◌-◌, ◌≤◌, length, take, subst, rules}
use Rattle.std.specs.Prelude.{IsTrue}
use Rattle.std.proofs.lemmas.List.{places}
use Rattle.mw_disk.specs.FileLogs.{state_of, is_read}
use Rattle.mw_disk.proofs.FileRuns.{reads_then}
use Rattle.mw_disk.proofs.Ranges.{read_more, rest_from}
use Rattle.mw_disk.proofs.file_runs.read_full.Goals as goal

pub loop-preserved : goal.loop-preserved
loop-preserved g c =
    let log = g.C.FileCalls.log in
    let from : c.in-Some.from ≡ c.args.at + c.loop.done = search rules in
    let count = c.in_ok-count.count in
    let part = c.read_some.new.into in
    let size : length part ≡ length c.loop.into - c.loop.done = search (rules, places) in
    let few : count ≤ length part = search rules in
    let room = length (rest_from c.loop.done c.loop.into) in
    let held = (state_of (log c.args.calls.now)).bytes in
    record {
      within = search rules;
      honest = c.read_some.ensures.honest ∙ c.loop.invariant.honest;
      reads = reads_then (log c.args.calls.now) (log c.loop.calls) (log c.read_some.new.calls) c.loop.invariant.reads c.read_some.ensures.reads;
      room = search rules;
      given = λ honest.
          let was = c.read_some.ensures.reads.runs.honest honest in
          let here = c.in_ok-count.ensures.given honest in
          let same : (state_of (log c.loop.calls)).bytes ≡ held = c.loop.invariant.reads.bytes in
          let read = subst (λ b. IsTrue (is_read b c.in-Some.from room (take count part))) same here in
          let there = subst (λ k. IsTrue (is_read held k room (take count part))) from read in
          read_more c.args.at c.loop.done count room held c.loop.into part c.loop.invariant.within few (c.loop.invariant.given was) there;
    }
