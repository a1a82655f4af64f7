-- How a run of commands ends.
use Rattle.std.proofs.Common.{◌≡◌, ◌∙◌, ℕ, Bool, true, false, List, [], ◌∷◌, ◌++◌, Option, refl, sym, ap, subst, inl, inr, append_assoc, append-nil, true≢false}
use Rattle.std.proofs.KnownBytes.{Appends-trans}
use Rattle.std.specs.Io.KnownBytes.{Appends}
use Rattle.std.specs.Prelude.{All}
use Rattle.mw_edges.specs.Causes.{PutsFront}
use Rattle.mw_model.specs.Seed.{Seed}
use Rattle.mw_protocol.specs.Lives.{Life, after_all, committed_of}
use Rattle.mw_protocol.specs.Named.{are_named}
use Rattle.mw_protocol.specs.Spelled.{records_bytes}
use Rattle.mw_laws.specs.Naming.{JournalsAreNamed}
use Rattle.mw_journal.specs.Settled.{AllShut}
use Rattle.mw_keep.specs.Keeps.{Keeps, kept_disk}
use Rattle.mw_keep.specs.declared.kept.KeptRoom.{KeptRoom}
use Rattle.mw_keep.specs.Left.{IsLeft}
use Rattle.mw_keep.proofs.Leaving.{left_of, shut_of}
use Rattle.mw_script.specs.Commands.{Command}
use Rattle.mw_drive.specs.Drive.{text_put, is_full, calls, puts, after, Run, after_puts, run, drive_text}
use Rattle.mw_drive.specs.Left.{IsGoing, HasDriven, IsPutFrom, KeepsFrom}
use Rattle.mw_drive.specs.Runs.{IsCut, IsQuietOrDone, HasHalted}
use Rattle.mw_drive.specs.declared.error.DriveError.{DriveError}
use Rattle.mw_drive.proofs.Calling.{all_after}
use Rattle.mw_drive.proofs.Running.{IsRun, text_both, run_goes, run_full, called, put_then, puts_later}

-- ---- all were done

module _ {D : Type 0} (may_leave : D → List ℕ → Type 0) (digest : List ℕ) (seed : Seed) (first now : Life) (old new : Option (List ℕ)) (all : List Command) (k : KeptRoom D)
    (r : IsRun first now old new [] all) (keeps : Keeps may_leave digest now k)
  where
    whole_text : text_put r.ps ≡ drive_text first all
    whole_text = ap text_put (sym (append-nil r.ps)) ∙ ap (λ (x : Run). text_put x.puts) r.whole

    whole_life : now ≡ (run first all).life
    whole_life = ap (λ (x : Run). x.life) r.whole

    pub has_driven : IsGoing seed now k → HasDriven (may_leave (kept_disk k)) digest first all old new
    has_driven going = record {
      whole = sym (ap (λ (x : Run). x.full) r.whole);
      put = subst (Appends old new) whole_text r.put;
      place = now.place;
      stands = subst (λ (l : Life). AllShut (may_leave (kept_disk k)) digest (records_bytes (committed_of l)) now.place) whole_life (shut_of may_leave digest now k keeps going.whole);
    }

    pub driven_kept : KeepsFrom (may_leave (kept_disk k)) digest first old new
    driven_kept = record {
      steps = r.steps;
      left = subst (IsLeft (may_leave (kept_disk k)) digest) r.is_now (left_of may_leave digest now k keeps);
      put = r.ps;
      front = (text_put r.ps, [], sym (append-nil (text_put r.ps)), r.put);
      taken = r.taken;
    }

-- ---- one was not

front_then : (front text f rest more : List ℕ) → text ≡ f ++ rest → (front ++ text) ++ more ≡ (front ++ f) ++ (rest ++ more)
front_then front text f rest more is =
    ap (λ (t : List ℕ). (front ++ t) ++ more) is ∙ ap (λ (t : List ℕ). t ++ more) (sym (append_assoc front f rest)) ∙ append_assoc (front ++ f) rest more

module _ {D : Type 0} (named_all : JournalsAreNamed) (may_leave : D → List ℕ → Type 0) (digest : List ℕ) (seed : Seed) (first now : Life) (old mid new : Option (List ℕ)) (c : Command) (left all : List Command)
    (r : IsRun first now old mid (c ∷ left) all) (disk : D) (error : DriveError) (cut : IsCut may_leave digest seed now c mid new disk error)
  where
    -- the text of all, where the next command meets a full journal
    full_text : is_full now c ≡ true → drive_text first all ≡ text_put r.ps
    full_text h = ap (λ (x : Run). text_put x.puts) (sym r.whole ∙ ap (after_puts r.ps) (run_full now c left h)) ∙ ap text_put (append-nil r.ps)

    full_run : is_full now c ≡ true → (run first all).full ≡ true
    full_run h = ap (λ (x : Run). x.full) (sym r.whole ∙ ap (after_puts r.ps) (run_full now c left h))

    -- and where it doesn't
    more_text : is_full now c ≡ false → drive_text first all ≡ text_put r.ps ++ text_put (puts now c) ++ text_put (run (after now c) left).puts
    more_text h =
        ap (λ (x : Run). text_put x.puts) (sym r.whole ∙ ap (after_puts r.ps) (run_goes now c left h))
        ∙ text_both r.ps (puts now c ++ (run (after now c) left).puts)
        ∙ ap (λ (t : List ℕ). text_put r.ps ++ t) (text_both (puts now c) (run (after now c) left).puts)
        ∙ sym (append_assoc (text_put r.ps) (text_put (puts now c)) (text_put (run (after now c) left).puts))

    -- where the next command meets a full journal nothing more is put
    quiet : IsQuietOrDone now c cut.steps mid new → is_full now c ≡ true → Appends mid new []
    quiet (inl none) h = none
    quiet (inr done) h = absurd (true≢false (sym h ∙ done.2))

    put_full : is_full now c ≡ true → Appends old new (drive_text first all)
    put_full h =
        subst (Appends old new) (append-nil (text_put r.ps) ∙ sym (full_text h)) (Appends-trans _ _ _ _ _ r.put (quiet cut.told h))

    front_by : (b : Bool) → is_full now c ≡ b → PutsFront old new (drive_text first all)
    front_by true h = (drive_text first all, [], sym (append-nil (drive_text first all)), put_full h)
    front_by false h =
        let f = cut.front in (
          text_put r.ps ++ f.0,
          f.1 ++ text_put (run (after now c) left).puts,
          more_text h ∙ front_then (text_put r.ps) (text_put (puts now c)) f.0 f.1 (text_put (run (after now c) left).puts) f.2,
          Appends-trans _ _ _ _ _ r.put f.3,
        )

    front_shown : PutsFront old new (text_put (r.ps ++ puts now c))
    front_shown =
        let f = cut.front in (
          text_put r.ps ++ f.0,
          f.1,
          text_both r.ps (puts now c) ∙ ap (λ (t : List ℕ). text_put r.ps ++ t) f.2 ∙ sym (append_assoc (text_put r.ps) f.0 f.1),
          Appends-trans _ _ _ _ _ r.put f.3,
        )

    cut_left : IsLeft (may_leave disk) digest (after_all first (r.steps ++ cut.steps))
    cut_left = subst (IsLeft (may_leave disk) digest) (ap (λ l. after_all l cut.steps) r.is_now ∙ sym (all_after r.steps first cut.steps)) cut.left

    -- nothing more was put, or all that the next command puts, whose calls were done
    cut_kept_by : IsQuietOrDone now c cut.steps mid new → KeepsFrom (may_leave disk) digest first old new
    cut_kept_by (inl none) = record {
      steps = r.steps ++ cut.steps;
      left = cut_left;
      put = r.ps;
      front = (text_put r.ps, [], sym (append-nil (text_put r.ps)), subst (Appends old new) (append-nil (text_put r.ps)) (Appends-trans _ _ _ _ _ r.put none));
      taken = puts_later first r.steps cut.steps r.ps r.taken;
    }
    cut_kept_by (inr done) = record {
      steps = r.steps ++ cut.steps;
      left = cut_left;
      put = r.ps ++ puts now c;
      front = front_shown;
      taken = subst (λ s. All (IsPutFrom first (r.steps ++ s)) (r.ps ++ puts now c)) (called now c done.0 ∙ sym done.1) (put_then first now old mid new c left all r done.2);
    }

    pub has_halted : (k : KeptRoom D) → Keeps may_leave digest now k → HasHalted (may_leave disk) digest seed first all old new error
    has_halted k keeps = record {
      front = front_by (is_full now c) refl;
      full = λ e. (full_run (cut.full e), put_full (cut.full e));
      kept = cut_kept_by cut.told;
      outside = λ journal place begins fit named. cut.outside record {
        spelled = keeps.records;
        named = subst (λ (l : Life). are_named seed l.room.journal ≡ true) (ap (λ l. after_all l r.steps) (sym begins) ∙ sym r.is_now) (named_all.anywhere seed journal place r.steps fit named);
      };
    }
