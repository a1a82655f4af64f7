use Rattle.std.proofs.Common.{◌≡◌, ◌<◌, ◌++◌, ◌∷◌, [], Some, None, set, length, length-set, sym, ap, ap₂, subst, ◌∙◌, refl, arith}
use Rattle.mw_fill.specs.Openings.{Opening, accepts}
use Rattle.mw_fill.specs.Fill.{stuck, put_of, first_fit, placed_anywhere}
use Rattle.mw_fill.specs.Kept.{CopyKept, IsHeldFor}
use Rattle.mw_fill.specs.Answer.{OnStuck}
use Rattle.mw_fill.proofs.Fitting.{find_all, held_first, still_taken}
use Rattle.mw_fill.proofs.Stepping.{anywhere_stuck, anywhere_next, anywhere_end, held_next}
use Rattle.mw_fill.proofs.anywhere.place_anywhere.Goals as goal

pub loop-copy-init : goal.loop-copy-init
loop-copy-init c = record { from = omega arith; taken = λ k d h l. absurd (omega arith); within = c.requires.within; so_far = λ joint puts copies openings held. (puts, held, refl) }

pub returns-in-None : goal.returns-in-None
returns-in-None c = λ joint puts copies openings held.
    let a = c.args in
    let copy = c.copy-item.result in
    let before = c.loop-copy.invariant.so_far joint puts copies openings held in
    let none : first_fit (accepts copy) before.0 a.openings.now ≡ None =
    sym (held_first (accepts copy) before.0 c.loop-copy.held a.openings.now before.1.entries) ∙ sym c.first_accepting.ensures ∙ c.in-None.is in
    subst (λ e. OnStuck e (λ slot item. placed_anywhere a.openings.now a.copies.now puts ≡ stuck slot item)) (sym c.stuck.ensures)
    (before.2 ∙ anywhere_stuck a.copies.now c.loop-copy.copy-index copy c.loop-copy-test.true c.copy-item.is a.openings.now before.0 none)

pub bounds-held-opening-inside : goal.bounds-held-opening-inside
bounds-held-opening-inside c =
    let within = find_all (λ s. s.place < length c.loop-copy.held) _ c.args.openings.now c.in-Some.opening c.loop-copy.invariant.within (sym c.first_accepting.ensures ∙ c.in-Some.is) in
    omega (arith, ap (λ (s : Opening). s.place) c.opening.view_is)

pub loop-copy-preserved : goal.loop-copy-preserved
loop-copy-preserved c =
    let a = c.args in
    let copy = c.copy-item.result in
    let opening = c.in-Some.opening in
    let held = c.loop-copy.held in
    let entry : set held c.opening.inside.place (Some c.put_at.result) ≡ set held opening.place (Some (put_of copy opening)) = ap₂ (λ n p. set held n (Some p)) (ap (λ (s : Opening). s.place) c.opening.view_is) c.put_at.ensures in
    record {
      from = c.past_taken-from.ensures.within;
      taken = still_taken held a.openings.now c.past_taken-from.result c.opening.inside.place c.put_at.result (omega (arith, bounds-held-opening-inside c)) c.past_taken-from.ensures.taken;
      within = λ i d l. omega (arith, length-set held c.opening.inside.place (Some c.put_at.result), c.loop-copy.invariant.within i d l);
      so_far = λ joint puts copies openings first.
          let before = c.loop-copy.invariant.so_far joint puts copies openings first in
          let found : first_fit (accepts copy) before.0 a.openings.now ≡ Some opening =
          sym (held_first (accepts copy) before.0 held a.openings.now before.1.entries) ∙ sym c.first_accepting.ensures ∙ c.in-Some.is in
          let kept : CopyKept joint copy = subst (CopyKept joint) (sym c.copy-item.is) (copies c.loop-copy.copy-index copy c.loop-copy-test.true) in (
            before.0 ++ put_of copy opening ∷ [],
            subst (IsHeldFor joint (before.0 ++ put_of copy opening ∷ [])) (sym entry) (held_next joint copy (accepts copy) before.0 a.openings.now opening held kept openings before.1 found),
            before.2 ∙ anywhere_next a.copies.now c.loop-copy.copy-index copy c.loop-copy-test.true c.copy-item.is a.openings.now before.0 opening found,
          );
    }

pub returns : goal.returns
returns c = λ joint puts copies openings held.
    let before = c.loop-copy.invariant.so_far joint puts copies openings held in
    (before.0, before.1, before.2 ∙ anywhere_end c.args.copies.now c.loop-copy.copy-index c.loop-copy-test.false c.args.openings.now before.0)
