-- A finished worklist goes on with items more.
use Rattle.std.proofs.Common.{◌≡◌, ℕ, ◌+◌, Bool, false, not, ◌&&◌, List, length, refl, sym, ap, ◌∙◌, inl, inr, arith}
use Rattle.std.proofs.lemmas.Bool.{true≢false, cases_Bool}
use Rattle.std.proofs.lemmas.List.Sums.{count_by-le-length}
use Rattle.mw_rules.specs.Holds.{Bag, Places, bag_of, places_of}
use Rattle.mw_rules.specs.Laws.{IsPartOf}
use Rattle.mw_rules.specs.Names.{is_among}
use Rattle.mw_rules.proofs.Naming.{hangs_on_names}
use Rattle.mw_multi.specs.Steps.{Step}
use Rattle.mw_multi.specs.Placement.{numbers_at}
use Rattle.mw_reach.specs.Reach.{Placed, times_in, bag_with, starts_in, is_open}
use Rattle.mw_reach.specs.Counts.{IsTally}
use Rattle.mw_reach.specs.GoingOn.{IsFinished, HasMore, CountsFitWith}
use Rattle.mw_reach.specs.Tables.{IsWatched, step_at}
use Rattle.mw_reach.specs.Worklist.{numbers_of, Wakes, IsGoing, IsWorking, steps_at}
use Rattle.mw_reach.proofs.Among.{not_among_times, among_numbers_of, away_from_item, names_item_shifted}
use Rattle.mw_reach.proofs.SameLeast.{Closed-less}
use Rattle.mw_reach.proofs.Walks.{open_more, bag_more}
use Rattle.mw_reach.proofs.Waking.{Lead-member, Lead-all}
use Rattle.mw_reach.proofs.Working.{Closed-at}

-- what the walk needs is there with the items more
pub going_on : (placed : Placed) (done : List Bool) (counts later_counts more : List ℕ) → ((i : ℕ) → bag_of later_counts i ≡ bag_of counts i + times_in i more) → CountsFitWith more placed done counts
    → (asked : List Step) (bag : Bag) (v : Places) (queue : List ℕ) (last : List Bool) (last_queue : List ℕ) (len : ℕ) → Wakes asked bag v done queue 0 last last_queue len → length last ≡ length done
    → IsGoing placed done later_counts last last_queue len
going_on placed done counts later_counts more grows room asked bag v queue last last_queue len a same = record {
  room = λ i. omega (arith, room i, grows i);
  entries = a.entries (λ k h. absurd (omega arith));
  space = omega (arith, a.room, count_by-le-length not done);
}

module _ (steps : List Step) (origins : List ℕ) (by_place by_item : List (List ℕ)) (watched : IsWatched steps origins by_place by_item)
    (done : List Bool) (counts later_counts more : List ℕ) (grows : (i : ℕ) → bag_of later_counts i ≡ bag_of counts i + times_in i more) where
  -- a step that names none of the items answers as before
  unmoved : (n : ℕ) → is_among (numbers_of by_item more) n ≡ false → is_open (step_at steps n) (bag_of later_counts) (places_of done) ≡ is_open (step_at steps n) (bag_of counts) (places_of done)
  unmoved n unnamed =
      let step = step_at steps n in
      ap (λ b. starts_in step.from (places_of done) && b) (hangs_on_names step.rule (λ i. bag_of later_counts (step.first_item + i)) (λ i. bag_of counts (step.first_item + i)) (λ q. places_of done (step.first_place + q)) (λ q. places_of done (step.first_place + q))
      (λ i e. elim (cases_Bool (is_among more (step.first_item + i))) [
        | inl here ↦ elim (cases_Bool (is_among (numbers_at by_item (step.first_item + i)) n)) [
          | inl there ↦ absurd (true≢false (sym (among_numbers_of by_item more (step.first_item + i) n here there) ∙ unnamed))
          | inr nowhere ↦ absurd (true≢false (sym (names_item_shifted step i e) ∙ away_from_item steps origins by_place by_item watched n (step.first_item + i) nowhere))
        ]
        | inr other ↦ let none = not_among_times more (step.first_item + i) other in omega (arith, grows (step.first_item + i))
      ])
      (λ q e. refl))

  -- only the steps that name the items are asked, and the work goes on from where it ended
  pub resumed : (base later : Bag) (before placed : Placed) (queue : List ℕ) (last : List Bool) (last_queue : List ℕ) (len : ℕ) → IsFinished steps base before done counts → HasMore base later before placed (places_of done) more
      → CountsFitWith more placed done counts → Wakes (steps_at steps (numbers_of by_item more)) (bag_of later_counts) (places_of done) done queue 0 last last_queue len → length last ≡ length done
      → IsWorking steps later placed done later_counts last last_queue 0 len
  resumed base later before placed queue last last_queue len old more_there room a same =
      let tally : IsTally later placed done later_counts = λ i. omega (arith, grows i, old.tally i, more_there.counts i) in
      let going = going_on placed done counts later_counts more grows room (steps_at steps (numbers_of by_item more)) (bag_of later_counts) (places_of done) queue last last_queue len a same in
      record {
        tally = tally;
        room = going.room;
        inside = λ p e. a.grows p e;
        settled = λ n o. elim (cases_Bool (is_among (numbers_of by_item more) n)) [
          | inl named ↦ Lead-member (bag_of later_counts) (places_of done) (places_of last) steps (numbers_of by_item more) n a.settled named o
          | inr unnamed ↦ a.grows _ (Closed-at steps base before (places_of done) old.least.closed n (open_more (step_at steps n) (bag_of counts) (bag_with base before (places_of done)) (places_of done) (places_of done) (λ i. omega (arith, old.tally i)) (λ p e. e) (sym (unmoved n unnamed) ∙ o)))
        ];
        sound = λ v c.
            let inside : IsPartOf (places_of done) v = old.least.least v (Closed-less steps base later before placed v (more_there.grows v) c) in
            a.sound v (Lead-all (bag_of later_counts) (places_of done) v steps (numbers_of by_item more)
            (λ n o. Closed-at steps later placed v c n (open_more (step_at steps n) (bag_of later_counts) (bag_with later placed v) (places_of done) v
            (λ i. omega (arith, tally i, bag_more later placed (places_of done) v inside i)) inside o))) inside;
        queued = a.queued 0 (omega arith) (λ p e d. absurd (true≢false (sym e ∙ d)));
        entries = going.entries;
        space = going.space;
      }
