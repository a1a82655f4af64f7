-- Files that are opened one after another, and closed.
use Rattle.std.proofs.Common.{◌≡◌, ◌∙◌, ◌≤◌, ◌<◌, ℕ, zero, suc, List, Bool, false, Option, Some, None, refl, sym, ap, subst, arith, inl, inr}
use Rattle.mw_edges.specs.Causes.{PassesOn}
use Rattle.mw_edges.specs.Files.{open_file}
use Rattle.mw_edges.specs.Folders.{SameImages, StaysOrIsMade, opened_bytes}
use Rattle.mw_checkpoint.specs.declared.files.Files.{Files}
use Rattle.mw_pair.specs.Folders.{AreOpen, AreOpenedAtMost, ArePairClosed, ArePairOpened, AreShut, IsClosed, IsOpened, IsOpenedAtMost, IsUnmoved, OthersStay, PassesAll}
use Rattle.mw_pair.specs.Names.{file_names}
use Rattle.mw_pair.specs.Steps.{Closes, Opens, Unopens}
use Rattle.mw_pair.proofs.Naming.{both_apart, either_name, first_apart, second_apart}

-- ---- one name

same_both : (first middle last : List ℕ → Type 0) → SameImages first middle → SameImages middle last → SameImages first last
same_both first middle last one two c = (λ x. (one c).0 ((two c).0 x), λ x. (two c).1 ((one c).1 x))

made_then : (before middle after : Option (Option (List ℕ))) → StaysOrIsMade before middle → StaysOrIsMade middle after → StaysOrIsMade before after
made_then before middle after (inl same) (inl stays) = inl (stays ∙ same)
made_then before middle after (inl same) (inr made) = inr (sym same ∙ made.0, made.1)
made_then before middle after (inr made) (inl stays) = inr (made.0, stays ∙ made.1)
made_then before middle after (inr made) (inr twice) = inr (made.0, twice.1)

-- what a disk tells that was only opened is what the file held, or none where there was no file
pub opened_same : (file after : Option (Option (List ℕ))) → after ≡ open_file (opened_bytes file) → StaysOrIsMade file after
opened_same None after is = inl is
opened_same (Some None) after is = inr (refl, is)
opened_same (Some (Some bytes)) after is = inl is

module _ {before middle after : Option (Option (List ℕ))} {might may left : List ℕ → Type 0} {was is now : Bool} where
  pub unmoved_then : IsUnmoved before middle might may was is → IsUnmoved middle after may left is now → IsUnmoved before after might left was now
  unmoved_then a b = record { told = b.told ∙ a.told; crash = same_both might may left a.crash b.crash; opened = b.opened ∙ a.opened }

  pub opened_then : IsOpenedAtMost before middle might may was is → IsOpenedAtMost middle after may left is now → IsOpenedAtMost before after might left was now
  opened_then a b = record { told = made_then before middle after a.told b.told; crash = λ c image. a.crash c (b.crash c image); opened = b.opened ∙ a.opened }

pub unmoved_opened : {before after : Option (Option (List ℕ))} {might may : List ℕ → Type 0} {was is : Bool} → IsUnmoved before after might may was is → IsOpenedAtMost before after might may was is
unmoved_opened u = record { told = inl u.told; crash = λ c image. (u.crash c).0 image; opened = u.opened }

-- a disk that wasn't written to, closed
pub closed_opened : {D : Type 0} (told : D → Option (List ℕ)) (may_leave : D → List ℕ → Type 0) (faults : D → ℕ) {before after : Option (Option (List ℕ))} {might may : List ℕ → Type 0} {was is : Bool} (disk : D)
    → IsOpened told may_leave faults before might disk → was ≡ false → IsClosed told may_leave after may is disk → IsOpenedAtMost before after might may was is
closed_opened told may_leave faults {before = before} {after = after} disk o shut c = record {
  told = opened_same before after (c.tells ∙ ap open_file o.tells);
  crash = λ x image. o.left x ((c.left x).0 image);
  opened = c.shut ∙ sym shut;
}

-- ---- all names

module _ {F D : Type 0} (holds : F → List ℕ → Option (Option (List ℕ))) (images : F → List ℕ → List ℕ → Type 0) (is_open : F → List ℕ → Bool) (told : D → Option (List ℕ)) (may_leave : D → List ℕ → Type 0) (faults : D → ℕ) where
  abbrev AtMost : F → F → Type 0
  AtMost a b = AreOpenedAtMost (holds a) (holds b) (images a) (images b) (is_open a) (is_open b)

  abbrev Others : F → F → List ℕ → Type 0
  Others a b choice = OthersStay (holds a) (holds b) (images a) (images b) (is_open a) (is_open b) choice

  pub others_then : (a b c : F) (choice : List ℕ) → Others a b choice → Others b c choice → Others a c choice
  others_then a b c choice one two n other = unmoved_then (one n other) (two n other)

  pub at_most_others : (a b : F) (choice : List ℕ) → Unopens holds images is_open a b choice → Others a b choice
  at_most_others a b choice u n other = u.others n other.choice_other

  pub unopened_at_most : (a b : F) (name : List ℕ) → Unopens holds images is_open a b name → AtMost a b
  unopened_at_most a b name u n =
      either_name n name (IsOpenedAtMost (holds a n) (holds b n) (images a n) (images b n) (is_open a n) (is_open b n))
      (λ same. subst (λ m. IsOpenedAtMost (holds a m) (holds b m) (images a m) (images b m) (is_open a m) (is_open b m)) (sym same) u.own)
      (λ other. unmoved_opened (u.others n other))

  -- a file was opened and closed, and others at most opened between
  pub around_run : (first a b last : F) (name : List ℕ) (disk : D) → Opens holds images is_open first a name told may_leave faults disk → AtMost a b → Closes holds images is_open b last name told may_leave disk → AtMost first last
  around_run first a b last name disk o run c n =
      either_name n name (IsOpenedAtMost (holds first n) (holds last n) (images first n) (images last n) (is_open first n) (is_open last n))
      (λ same. subst (λ m. IsOpenedAtMost (holds first m) (holds last m) (images first m) (images last m) (is_open first m) (is_open last m)) (sym same)
      (closed_opened told may_leave faults disk o.opened o.was_shut c.closed))
      (λ other. opened_then (unmoved_opened (o.others n other)) (opened_then (run n) (unmoved_opened (c.others n other))))

  -- ---- three files

  module _ (choice : List ℕ) (start first second end : F) (c z o : D)
      (one : Opens holds images is_open start first choice told may_leave faults c) (two : Opens holds images is_open first second (file_names choice).zero told may_leave faults z)
      (three : Opens holds images is_open second end (file_names choice).one told may_leave faults o)
    where
      -- the journals, as the folder told before
      zero_first : IsUnmoved (holds start (file_names choice).zero) (holds first (file_names choice).zero) (images start (file_names choice).zero) (images first (file_names choice).zero)
          (is_open start (file_names choice).zero) (is_open first (file_names choice).zero)
      zero_first = one.others (file_names choice).zero (first_apart choice)

      one_second : IsUnmoved (holds start (file_names choice).one) (holds second (file_names choice).one) (images start (file_names choice).one) (images second (file_names choice).one)
          (is_open start (file_names choice).one) (is_open second (file_names choice).one)
      one_second = unmoved_then (one.others (file_names choice).one (second_apart choice)) (two.others (file_names choice).one (λ same. both_apart choice (sym same)))

      pub pair_opened : ArePairOpened told may_leave faults (holds start) (images start) choice (record { choice = c; zero = z; one = o })
      pair_opened = record {
        choice = one.opened;
        zero = record {
          tells = two.opened.tells ∙ ap opened_bytes zero_first.told;
          left = λ x image. (zero_first.crash x).0 (two.opened.left x image);
          fresh = two.opened.fresh;
        };
        one = record {
          tells = three.opened.tells ∙ ap opened_bytes one_second.told;
          left = λ x image. (one_second.crash x).0 (three.opened.left x image);
          fresh = three.opened.fresh;
        };
      }

      pub pair_open : AreOpen (is_open end) choice
      pair_open = record {
        choice_open = (three.others choice (λ same. second_apart choice (sym same))).opened ∙ (two.others choice (λ same. first_apart choice (sym same))).opened ∙ one.is_now;
        first_open = (three.others (file_names choice).zero (both_apart choice)).opened ∙ two.is_now;
        second_open = three.is_now;
      }

      pub pair_was_shut : AreShut (is_open start) choice
      pair_was_shut = record {
        choice_shut = one.was_shut;
        first_shut = sym zero_first.opened ∙ two.was_shut;
        second_shut = sym one_second.opened ∙ three.was_shut;
      }

      pub pair_others : Others start end choice
      pair_others n other = unmoved_then (one.others n other.choice_other) (unmoved_then (two.others n other.first_other) (three.others n other.second_other))

  module _ (choice : List ℕ) (start first second end : F) (c z o : D)
      (one : Closes holds images is_open start first (file_names choice).one told may_leave o) (two : Closes holds images is_open first second (file_names choice).zero told may_leave z)
      (three : Closes holds images is_open second end choice told may_leave c)
    where
      zero_last : IsUnmoved (holds second (file_names choice).zero) (holds end (file_names choice).zero) (images second (file_names choice).zero) (images end (file_names choice).zero)
          (is_open second (file_names choice).zero) (is_open end (file_names choice).zero)
      zero_last = three.others (file_names choice).zero (first_apart choice)

      one_last : IsUnmoved (holds first (file_names choice).one) (holds end (file_names choice).one) (images first (file_names choice).one) (images end (file_names choice).one)
          (is_open first (file_names choice).one) (is_open end (file_names choice).one)
      one_last = unmoved_then (two.others (file_names choice).one (λ same. both_apart choice (sym same))) (three.others (file_names choice).one (second_apart choice))

      closed_still : {before after : Option (Option (List ℕ))} {might may : List ℕ → Type 0} {was is : Bool} (disk : D) → IsClosed told may_leave before might was disk → IsUnmoved before after might may was is
          → IsClosed told may_leave after may is disk
      closed_still {might = might} {may = may} disk k u = record { tells = u.told ∙ k.tells; left = same_both (may_leave disk) might may k.left u.crash; shut = u.opened ∙ k.shut }

      pub pair_closed : ArePairClosed told may_leave (holds end) (images end) (is_open end) choice (record { choice = c; zero = z; one = o })
      pair_closed = record { choice = three.closed; zero = closed_still z two.closed zero_last; one = closed_still o one.closed one_last }

      pub pair_closed_others : Others start end choice
      pair_closed_others n other = unmoved_then (one.others n other.second_other) (unmoved_then (two.others n other.first_other) (three.others n other.choice_other))

-- ---- counts

pub passes_later : (other before after : ℕ) → PassesOn other before after → before ≤ after
passes_later other before after p = by other refl
  where
    by : (n : ℕ) → other ≡ n → before ≤ after
    by zero is = let same = p.kept is in omega (arith, same)
    by (suc n) is = let some : 0 < other = omega (arith, is) in let rose = p.rose some in omega (arith, rose)

-- three disks were closed, the last of them first
pub passes_all : {D : Type 0} (faults : D → ℕ) (files : Files D) (first second third last : ℕ) → PassesOn (faults files.one) first second → PassesOn (faults files.zero) second third → PassesOn (faults files.choice) third last
    → PassesAll faults files first last
passes_all faults files first second third last p q r =
    let a = passes_later (faults files.one) first second p in
    let b = passes_later (faults files.zero) second third q in
    let c = passes_later (faults files.choice) third last r in
    record {
      later = omega (arith, a, b, c);
      choice = λ some. let rose = r.rose some in omega (arith, a, b, rose);
      zero = λ some. let rose = q.rose some in omega (arith, a, rose, c);
      one = λ some. let rose = p.rose some in omega (arith, rose, b, c);
    }
