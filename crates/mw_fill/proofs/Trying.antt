-- What a try comes to.
use Rattle.std.proofs.Common.{◌≡◌, ℕ, ◌<◌, List, [], Option, All, length, sym, subst, refl, arith}
use Rattle.std.specs.Prelude.{Result, Ok, Err, MatchResult, IsErrAnd}
use Rattle.std.proofs.lemmas.Result.{err_from_is_err_and}
use Rattle.std.proofs.lemmas.List.Elements.{All-append, All-filter}
use Rattle.mw_multi.specs.Joint.{Joint}
use Rattle.mw_multi.specs.Placement.{Put}
use Rattle.mw_multi.specs.declared.location.LocKind.TheVariants.{Default, Priority, Excluded}
use Rattle.mw_fill.specs.declared.error.FillError.{FillError}
use Rattle.mw_fill.specs.declared.error.FillError.TheVariants.{Stuck, Memory}
use Rattle.mw_fill.specs.Copies.{ItemCopy}
use Rattle.mw_fill.specs.Openings.{Opening, has_kind, of_kind, regular, all_kinds}
use Rattle.mw_fill.specs.Fill.{Outcome, filled, stuck, FillRun}
use Rattle.mw_fill.specs.Try.{Lists, the_rest, IsOutcome}
use Rattle.mw_fill.specs.Kept.{OpeningKept, IsHeldFor}
use Rattle.mw_fill.specs.Answer.{OnStuck}

-- ---- the locations by kind

pub regular_all : (P : Opening → Type 0) (openings : List Opening) → All P openings → All P (regular openings)
regular_all P openings h = All-append P (of_kind Priority openings) (of_kind Default openings) (All-filter (has_kind Priority) P openings h) (All-filter (has_kind Default) P openings h)

pub all_kinds_all : (P : Opening → Type 0) (openings : List Opening) → All P openings → All P (all_kinds openings)
all_kinds_all P openings h = All-append P (of_kind Excluded openings) (regular openings) (All-filter (has_kind Excluded) P openings h) (regular_all P openings h)

-- locations of the joint are within what is held for it
pub places_within : (joint : Joint) (puts : List Put) (held : List (Option Put)) (openings : List Opening) → IsHeldFor joint puts held → All (OpeningKept joint) openings → All (λ s. s.place < length held) openings
places_within joint puts held openings h there = λ i d l. omega (arith, h.size, (there i d l).place)

-- ---- answers

pub on_stuck : (e : FillError) (P Q : ℕ → ℕ → Type 0) → ((slot item : ℕ) → P slot item → Q slot item) → OnStuck e P → OnStuck e Q
on_stuck (Stuck slot item) P Q h p = h slot item p
on_stuck Memory P Q h p = tt

pub run_same : (joint : Joint) (openings other : List Opening) (copies more : List ItemCopy) (out : Outcome) → openings ≡ other → copies ≡ more → FillRun joint openings copies [] out → FillRun joint other more [] out
run_same joint openings other copies more out s c r =
    subst (λ ss. FillRun joint ss more [] out) s (subst (λ cs. FillRun joint openings cs [] out) c r)

-- stuck at a copy that rules ask for
pub stuck_first : (joint : Joint) (lists : Lists) (slot item : ℕ) → FillRun joint (regular lists.openings) lists.asked [] (stuck slot item) → IsOutcome joint lists (stuck slot item)
stuck_first joint lists slot item run = (stuck slot item, run, refl)

-- stuck at another one
pub stuck_rest : (joint : Joint) (lists : Lists) (puts : List Put) (slot item : ℕ) → FillRun joint (regular lists.openings) lists.asked [] (filled puts)
    → the_rest lists puts ≡ stuck slot item → IsOutcome joint lists (stuck slot item)
stuck_rest joint lists puts slot item run e = (filled puts, run, sym e)

-- what the last copies come to
pub rest_filled : (joint : Joint) (lists : Lists) (puts more : List Put) → FillRun joint (regular lists.openings) lists.asked [] (filled puts)
    → the_rest lists puts ≡ filled more → IsOutcome joint lists (filled more)
rest_filled joint lists puts more run e = (filled puts, run, sym e)

pub matched : {A E : Type 0} (r : Result A E) (P P' : A → Type 0) (Q Q' : E → Type 0) → ((a : A) → P a → P' a) → ((e : E) → Q e → Q' e) → MatchResult r P Q → MatchResult r P' Q'
matched (Ok a) P P' Q Q' f g m = f a m
matched (Err e) P P' Q Q' f g m = g e m

-- what is known of an error is known of the answer that passes it on
pub passed_on : {A E : Type 0} (r : Result A E) (P : A → Type 0) (Q : E → Type 0) (e : E) → Q e → IsErrAnd r (λ x. x ≡ e) → MatchResult r P Q
passed_on r P Q e q h = let p = err_from_is_err_and r h in subst (λ a. MatchResult a P Q) (sym p.1) (subst Q (sym p.2) q)
