-- In a history of calls by several passes, a session takes what it was owed, from the first message on.
use Rattle.std.proofs.Common.{◌≡◌, ℕ, ◌==◌, List, [], ◌∷◌, ◌++◌, Bool, true, false, if◌then◌else◌, Option, Some, None, refl, sym, ap, subst, ◌∙◌, append_assoc, append-nil, eq-eqb, true≢false}
use Rattle.std.specs.List.{AllByRecursion}
use Rattle.mw_model.specs.Seed.{Seed}
use Rattle.mw_protocol.specs.Lives as plain
use Rattle.mw_protocol.specs.Lives.{Life, Luck, life_after, new_life, reply_to}
use Rattle.mw_protocol.specs.Records.{Record}
use Rattle.mw_protocol.specs.Rooms as plain_rooms
use Rattle.mw_laws.specs.Kept.{LivesKeep}
use Rattle.mw_lock.specs.declared.view.Entry.{Entry}
use Rattle.mw_lock.specs.History.{calls_by, events, LegalFrom}
use Rattle.mw_lock.specs.Passes.{IsTrueTo}
use Rattle.mw_link.specs.declared.link.Heard.{Heard}
use Rattle.mw_packets_in.specs.View.{bad_view, packet_view}
use Rattle.mw_keep.proofs.Lived.{replied_more}
use Rattle.mw_keep.specs.Standing.{Began, MayReply, Replied, lived}
use Rattle.mw_keep.specs.Views.{call_view, reply_view}
use Rattle.mw_keep.specs.declared.call.Call.{Call}
use Rattle.mw_keep.specs.declared.call.Call.TheVariants.{Open, Packet, Bad, Lost, Commit, Take}
use Rattle.mw_keep.specs.declared.kept.Origin.{Origin}
use Rattle.mw_keep.specs.declared.reply.Reply.{Reply}
use Rattle.mw_keep.specs.declared.reply.Reply.TheVariants as R
use Rattle.mw_session.specs.Answered.{calls_of, taken, taken_by, texts_of}
use Rattle.mw_session.specs.Owed.{HasTaken, OthersSpare, ServesOwed, Spares}
use Rattle.mw_session.specs.Passes.{Makes, RoomPass}
use Rattle.mw_session.specs.Sessions.{Closes, IsSession}
use Rattle.mw_session.specs.declared.ended.Ended.{Ended}
use Rattle.mw_session.specs.declared.ended.Ended.TheVariants as Ends
use Rattle.mw_session.proofs.Owing.{AreGiven, Follows, IsApart, life_given, life_keeps, life_opens, life_takes, texts_in}
use Rattle.mw_session.proofs.Lists.{taken_more}
use Rattle.mw_session.proofs.Owning.{IsOwn, own_front}

-- ---- one call

texts_seen : (r : Reply) → texts_in (reply_view r) ≡ texts_of r
texts_seen (R.Opened n) = refl
texts_seen R.Done = refl
texts_seen (R.Messages texts) = refl
texts_seen R.Gone = refl
texts_seen R.Overrun = refl
texts_seen (R.Stopped cause) = refl
texts_seen R.Memory = refl

spared : (n : ℕ) (c : Call) → Spares n c → IsApart n (call_view c)
spared n (Open time) h = tt
spared n (Packet m packet) h = tt
spared n (Bad m bad) h = tt
spared n (Lost m) h = h
spared n Commit h = tt
spared n (Take m) h = h

module _ (lives : LivesKeep) (life : Life) (luck : Luck) (n : ℕ) (texts : List (List ℕ)) (f : Follows life.room n texts) where
  stays : (call : plain.Call) → IsApart n call → Follows (life_after life call luck).room n (texts ++ [])
  stays call apart = subst (Follows (life_after life call luck).room n) (sym (append-nil texts)) (life_keeps lives life call luck n texts apart f)

  own_takes : (m : ℕ) (r : Reply) → m ≡ n → reply_view r ≡ reply_to life (plain.takes m) luck → Follows (life_after life (plain.takes m) luck).room n (texts ++ texts_of r)
  own_takes m r is = subst (λ k. reply_view r ≡ reply_to life (plain.takes k) luck → Follows (life_after life (plain.takes k) luck).room n (texts ++ texts_of r)) (sym is)
      (λ due. subst (λ more. Follows (life_after life (plain.takes n) luck).room n (texts ++ more)) (ap texts_in (sym due) ∙ texts_seen r) (life_takes lives life luck n texts f))

  -- of the session's own pass
  own_step : (c : Call) (r : Reply) → IsOwn n (call_view c) → reply_view r ≡ reply_to life (call_view c) luck → Follows (life_after life (call_view c) luck).room n (texts ++ taken c r)
  own_step (Open time) r own due = stays (plain.happens (plain_rooms.opened time)) tt
  own_step (Packet m packet) r own due = stays (plain.happens (plain_rooms.sent m (packet_view packet))) tt
  own_step (Bad m bad) r own due = stays (plain.happens (plain_rooms.failed m (bad_view bad))) tt
  own_step (Lost m) r own due = absurd own
  own_step Commit r own due = stays plain.commits tt
  own_step (Take m) r own due = own_takes m r own due

-- ---- a history

module _ (lives : LivesKeep) (n number : ℕ) where
  along : (es : List (Entry Call Reply)) (rest : List (Call × Reply)) (life : Life) (lucks : List Luck) (texts : List (List ℕ)) → Follows life.room n texts → Replied life (events es ++ rest) lucks
      → OthersSpare n number es → AllByRecursion (IsOwn n) (calls_of (calls_by number es)) → Follows (lived life (events es) lucks).room n (texts ++ taken_by (calls_by number es))
  along [] rest life lucks texts f due spare own = subst (Follows life.room n) (sym (append-nil texts)) f
  along (e ∷ es) rest life [] texts f due spare own = absurd due
  along (e ∷ es) rest life (l ∷ ls) texts f due spare own =
      step (λ ts held own. along es rest (life_after life (call_view e.call) l) ls ts held due.1 spare.1 own) (e.by == number) refl own
    where
      step : ((ts : List (List ℕ)) → Follows (life_after life (call_view e.call) l).room n ts → AllByRecursion (IsOwn n) (calls_of (calls_by number es)) → Follows (lived (life_after life (call_view e.call) l) (events es) ls).room n (ts ++ taken_by (calls_by number es)))
          → (b : Bool) → (e.by == number) ≡ b → AllByRecursion (IsOwn n) (calls_of (if b then (e.call, e.reply) ∷ calls_by number es else calls_by number es))
          → Follows (lived (life_after life (call_view e.call) l) (events es) ls).room n (texts ++ taken_by (if b then (e.call, e.reply) ∷ calls_by number es else calls_by number es))
      step again true is own =
          subst (Follows (lived (life_after life (call_view e.call) l) (events es) ls).room n) (append_assoc texts (taken e.call e.reply) (taken_by (calls_by number es)))
          (again (texts ++ taken e.call e.reply) (own_step lives life l n texts f e.call e.reply own.0 due.0) own.1)
      step again false is own =
          again texts (life_keeps lives life (call_view e.call) l n texts (spared n e.call (spare.0 (λ same. true≢false (sym (eq-eqb e.by number same) ∙ is)))) f) own

  -- it is opened, and then goes on
  opened_along : (f : List (Call × Reply)) (time : ℕ) (es : List (Entry Call Reply)) (rest : List (Call × Reply)) (life : Life) (lucks : List Luck) → AreGiven life.room
      → Replied life (f ++ (Open time, R.Opened n) ∷ (events es ++ rest)) lucks → OthersSpare n number es → AllByRecursion (IsOwn n) (calls_of (calls_by number es))
      → Follows (lived life (f ++ (Open time, R.Opened n) ∷ events es) lucks).room n (taken_by (calls_by number es))
  opened_along [] time es rest life [] given due spare own = absurd due
  opened_along [] time es rest life (l ∷ ls) given due spare own =
      along es rest (life_after life (plain.happens (plain_rooms.opened time)) l) ls [] (life_opens lives life l time n (sym due.0) given) due.1 spare own
  opened_along (c ∷ cs) time es rest life [] given due spare own = absurd due
  opened_along (c ∷ cs) time es rest life (l ∷ ls) given due spare own =
      opened_along cs time es rest (life_after life (call_view c.0) l) ls (life_given lives life (call_view c.0) l given) due.1 spare own

-- ---- where the calls of a pass stand

abbrev first_or : {A : Type 0} → A → List A → A
first_or x [] = x
first_or x (y ∷ ys) = y

abbrev others : {A : Type 0} → List A → List A
others [] = []
others (x ∷ xs) = xs

abbrev has_first : {A : Type 0} → List A → Bool
has_first [] = false
has_first (x ∷ xs) = true

none_first : {A : Type 0} (x : A) (xs : List A) → [] ≡ x ∷ xs → ⊥
none_first x xs e = true≢false (sym (ap has_first e))

events_append : (es fs : List (Entry Call Reply)) → events (es ++ fs) ≡ events es ++ events fs
events_append [] fs = refl
events_append (e ∷ es) fs = ap (λ l. (e.call, e.reply) ∷ l) (events_append es fs)

record Split (number : ℕ) (es : List (Entry Call Reply)) (x : Call × Reply) (after : List (Call × Reply)) : Type 0 where
  front : List (Entry Call Reply)
  here : Entry Call Reply
  back : List (Entry Call Reply)
  is : es ≡ front ++ here ∷ back
  same : (here.call, here.reply) ≡ x
  by : calls_by number back ≡ after

split_more : (number : ℕ) (e : Entry Call Reply) (es : List (Entry Call Reply)) (x : Call × Reply) (after : List (Call × Reply)) → Split number es x after → Split number (e ∷ es) x after
split_more number e es x after k = record { front = e ∷ k.front; here = k.here; back = k.back; is = ap (λ l. e ∷ l) k.is; same = k.same; by = k.by }

split_at : (number : ℕ) (es : List (Entry Call Reply)) (before : List (Call × Reply)) (x : Call × Reply) (after : List (Call × Reply)) → calls_by number es ≡ before ++ x ∷ after → Split number es x after
split_at number [] [] x after h = absurd (none_first x after h)
split_at number [] (y ∷ ys) x after h = absurd (none_first y (ys ++ x ∷ after) h)
split_at number (e ∷ es) before x after h = step (λ before is. split_at number es before x after is) (e.by == number) before h
  where
    step : ((before : List (Call × Reply)) → calls_by number es ≡ before ++ x ∷ after → Split number es x after)
        → (b : Bool) (before : List (Call × Reply)) → (if b then (e.call, e.reply) ∷ calls_by number es else calls_by number es) ≡ before ++ x ∷ after → Split number (e ∷ es) x after
    step again true [] h = record { front = []; here = e; back = es; is = refl; same = ap (first_or x) h; by = ap others h }
    step again true (y ∷ ys) h = split_more number e es x after (again ys (ap others h))
    step again false before h = split_more number e es x after (again before h)

record Front (number : ℕ) (es : List (Entry Call Reply)) (calls : List (Call × Reply)) : Type 0 where
  front : List (Entry Call Reply)
  back : List (Entry Call Reply)
  is : es ≡ front ++ back
  by : calls_by number front ≡ calls

front_of : (number : ℕ) (es : List (Entry Call Reply)) (calls after : List (Call × Reply)) → calls_by number es ≡ calls ++ after → Front number es calls
front_of number es [] after h = record { front = []; back = es; is = refl; by = refl }
front_of number [] (y ∷ ys) after h = absurd (none_first y (ys ++ after) h)
front_of number (e ∷ es) (y ∷ ys) after h = step (λ calls is. front_of number es calls after is) (e.by == number) refl h
  where
    more : (b : Bool) (fs : List (Entry Call Reply)) → (e.by == number) ≡ b → calls_by number (e ∷ fs) ≡ (if b then (e.call, e.reply) ∷ calls_by number fs else calls_by number fs)
    more b fs is = ap (λ (b : Bool). if b then (e.call, e.reply) ∷ calls_by number fs else calls_by number fs) is

    step : ((calls : List (Call × Reply)) → calls_by number es ≡ calls ++ after → Front number es calls)
        → (b : Bool) → (e.by == number) ≡ b → (if b then (e.call, e.reply) ∷ calls_by number es else calls_by number es) ≡ y ∷ (ys ++ after) → Front number (e ∷ es) (y ∷ ys)
    step again true is h = let k = again ys (ap others h) in
        record { front = e ∷ k.front; back = k.back; is = ap (λ l. e ∷ l) k.is; by = more true k.front is ∙ (ap (λ z. z ∷ calls_by number k.front) (ap (first_or y) h) ∙ ap (λ l. y ∷ l) k.by) }
    step again false is h = let k = again (y ∷ ys) h in record { front = e ∷ k.front; back = k.back; is = ap (λ l. e ∷ l) k.is; by = more false k.front is ∙ k.by }

spare_back : (n number : ℕ) (es fs : List (Entry Call Reply)) → OthersSpare n number (es ++ fs) → OthersSpare n number fs
spare_back n number [] fs h = h
spare_back n number (e ∷ es) fs h = spare_back n number es fs h.1

spare_front : (n number : ℕ) (es fs : List (Entry Call Reply)) → OthersSpare n number (es ++ fs) → OthersSpare n number es
spare_front n number [] fs h = tt
spare_front n number (e ∷ es) fs h = (h.0, spare_front n number es fs h.1)

-- ---- a session

-- a pass opened a session, and then made these calls of it; no other pass took its messages or ended it
pub has_taken : LivesKeep → (life : Life) → AreGiven life.room → (es : List (Entry Call Reply)) (lucks : List Luck) → Replied life (events es) lucks
    → (number n time : ℕ) (before talk after : List (Call × Reply)) → calls_by number es ≡ before ++ (Open time, R.Opened n) ∷ (talk ++ after)
    → AllByRecursion (IsOwn n) (calls_of talk) → OthersSpare n number es → HasTaken life (events es) lucks n (taken_by talk)
has_taken lives life given es lucks due number n time before talk after is own spare =
    let k = split_at number es before (Open time, R.Opened n) (talk ++ after) is in
    let m = front_of number k.back talk after k.by in
    let opening : List (Call × Reply) = events k.front ++ (Open time, R.Opened n) ∷ events m.front in
    let whole : events es ≡ events k.front ++ (Open time, R.Opened n) ∷ (events m.front ++ events m.back) =
    ap events k.is ∙ (events_append k.front (k.here ∷ k.back)
    ∙ (ap (λ c. events k.front ++ c ∷ events k.back) k.same
    ∙ ap (λ l. events k.front ++ (Open time, R.Opened n) ∷ l) (ap events m.is ∙ events_append m.front m.back))) in
    let behind : OthersSpare n number (k.here ∷ k.back) = spare_back n number k.front (k.here ∷ k.back) (subst (OthersSpare n number) k.is spare) in
    let spare_more : OthersSpare n number m.front = spare_front n number m.front m.back (subst (OthersSpare n number) m.is behind.1) in
    let follows = opened_along lives n number (events k.front) time m.front (events m.back) life lucks given (subst (λ cs. Replied life cs lucks) whole due) spare_more (subst (λ cs. AllByRecursion (IsOwn n) (calls_of cs)) (sym m.by) own) in
    record {
      front = opening;
      back = events m.back;
      point = whole ∙ sym (append_assoc (events k.front) ((Open time, R.Opened n) ∷ events m.front) (events m.back));
      s = follows.s;
      found = follows.found;
      is = ap taken_by (sym m.by) ∙ follows.is;
    }

-- ---- the luck of a legal history

module _ {D : Type 0} (may_leave : D → List ℕ → Type 0) (digest : List ℕ) (seed : Seed) (journal : List Record) (place : ℕ) (origin : Origin D) (began : Began may_leave digest seed journal place origin) where
  abbrev HasLucks : List (Call × Reply) → Type 0
  HasLucks past = (lucks : List Luck) × Replied (new_life seed journal place) past lucks

  pub all_lucks : (past : List (Call × Reply)) (es : List (Entry Call Reply)) → HasLucks past → LegalFrom (MayReply may_leave (Some origin)) past es → HasLucks (past ++ events es)
  all_lucks past [] h legal = subst HasLucks (sym (append-nil past)) h
  all_lucks past (e ∷ es) h legal =
      let k = legal.0 digest seed journal place began in
      let more : HasLucks (past ++ (e.call, e.reply) ∷ []) = (k.0 ++ k.1 ∷ [], replied_more e.call e.reply k.1 (new_life seed journal place) past k.0 k.2 k.3) in
      subst HasLucks (append_assoc past ((e.call, e.reply) ∷ []) (events es)) (all_lucks (past ++ (e.call, e.reply) ∷ []) es more legal.1)

-- ---- a session that was served

taken_close : (session : ℕ) (ended : Ended) (close : List (Call × Reply)) → Closes session ended close → taken_by close ≡ []
taken_close session Ends.Gone close h = ap taken_by h
taken_close session (Ends.Stopped cause) close h = ap taken_by h
taken_close session Ends.Closed close h = ap taken_by h.1
taken_close session Ends.LinkFault close h = ap taken_by h.1
taken_close session Ends.Overrun close h = ap taken_by h.1
taken_close session (Ends.TooLong bytes) close h = ap taken_by h.1
taken_close session Ends.Memory close h = ap taken_by h.1

-- what a session's calls took is what those between its first and its last took
pub taken_all : (session time : ℕ) (ended : Ended) (talk close : List (Call × Reply)) → Closes session ended close → taken_by ((Open time, R.Opened session) ∷ talk ++ close) ≡ taken_by talk
taken_all session time ended talk close h = taken_more talk close ∙ (ap (λ l. taken_by talk ++ l) (taken_close session ended close h) ∙ append-nil (taken_by talk))

pub serves_owed : LivesKeep → {D : Type 0} (may_leave : D → List ℕ → Type 0) (v w : RoomPass (Option (Origin D))) (time : ℕ) (calls : List (Call × Reply)) (heard : List Heard) (sent : List (List ℕ)) (rose : Type 0) (session : Option ℕ) (ended : Ended)
    → Makes v calls w → IsSession time calls heard sent rose session ended → IsTrueTo (MayReply may_leave) w → ServesOwed may_leave v session w
serves_owed lives may_leave v w time calls heard sent rose None ended made is true_to = tt
serves_owed lives may_leave v w time calls heard sent rose (Some n) ended made is true_to = (
  calls,
  made,
  λ digest seed journal place origin base began spare.
      let legal = subst (λ b. LegalFrom (MayReply may_leave b) [] w.seen) base true_to.0 in
      let luck = all_lucks may_leave digest seed journal place origin began [] w.seen ([], tt) legal in
      let own : calls_by w.number w.seen ≡ v.own ++ (Open time, R.Opened n) ∷ (is.0 ++ is.1) = true_to.1 ∙ (ap (λ (z : RoomPass _). z.own) made.own ∙ ap (λ l. v.own ++ l) is.2) in
      let all : taken_by is.0 ≡ taken_by calls = sym (ap taken_by is.2 ∙ taken_all n time ended is.0 is.1 is.4) in (
        luck.0,
        luck.1,
        subst (HasTaken (new_life seed journal place) (events w.seen) luck.0 n) all
            (has_taken lives (new_life seed journal place) tt w.seen luck.0 luck.1 w.number n time v.own is.0 is.1 own (own_front n (calls_of is.0) heard is.3.asked) spare),
      ),
)
