-- No session has a number that another one has.
use Rattle.std.proofs.Common.{◌≡◌, ◌≢◌, ◌⊎◌, ℕ, ◌+◌, ◌<◌, ◌≤◌, eqb, Bool, true, false, if◌then◌else◌, List, [], ◌∷◌, ◌++◌, refl, ap, sym, subst, ◌∙◌, ⊎_elim, inl, inr, arith, ne_eqb}
use Rattle.std.specs.Prelude.{Option, None, Some}
use Rattle.std.proofs.lemmas.Bool.{eqb-true}
use Rattle.mw_lock.specs.declared.view.Entry.{Entry}
use Rattle.mw_lock.specs.History.{calls_by, events, LegalFrom}
use Rattle.mw_lock.specs.Rule.{Apart, Each}
use Rattle.mw_link.specs.declared.link.Heard.{Heard}
use Rattle.mw_model.specs.Seed.{Seed}
use Rattle.mw_protocol.specs.Records.{Record}
use Rattle.mw_keep.specs.declared.call.Call.{Call}
use Rattle.mw_keep.specs.declared.kept.KeptRoom.{KeptRoom}
use Rattle.mw_keep.specs.declared.reply.Reply.{Reply}
use Rattle.mw_keep.specs.declared.reply.Reply.TheVariants as R
use Rattle.mw_keep.specs.declared.reply.StopCause.{StopCause}
use Rattle.mw_keep.specs.Keeps.{origin_of}
use Rattle.mw_keep.specs.Standing.{Began, HasLived, MayReply}
use Rattle.mw_session.specs.Opened.{opened_by, opens, Fits, FitsAfter}
use Rattle.mw_session.proofs.Opening.{legal_fits}
use Rattle.mw_session.specs.declared.served.Served.{Served}
use Rattle.mw_session.specs.Sessions.{IsSession}
use Rattle.mw_session.specs.Rooms.{base_of, Accounts, AreEntries, IsEntry, IsServed}
use Rattle.mw_session.specs.Numbers.{all_numbers, number_of, numbers_of, times, NoneTwice}

pub opens_more : (past : List (Call × Reply)) (c : Call) (r : Reply) → opens (past ++ (c, r) ∷ []) ≡ opened_by r + opens past
opens_more [] c r = omega arith
opens_more (x ∷ xs) c r = omega (arith, opens_more xs c r)

-- whether a reply opened this session
abbrev pub hit : ℕ → Reply → ℕ
hit n (R.Opened m) = if eqb m n then 1 else 0
hit n R.Done = 0
hit n (R.Messages texts) = 0
hit n R.Gone = 0
hit n R.Overrun = 0
hit n (R.Stopped m) = 0
hit n R.Memory = 0

abbrev pub opens_of : ℕ → List (Call × Reply) → ℕ
opens_of n [] = 0
opens_of n (x ∷ xs) = hit n x.1 + opens_of n xs

pub opens_append : (n : ℕ) (xs ys : List (Call × Reply)) → opens_of n (xs ++ ys) ≡ opens_of n xs + opens_of n ys
opens_append n [] ys = omega arith
opens_append n (x ∷ xs) ys = omega (arith, opens_append n xs ys)

times_append : (n : ℕ) (xs ys : List ℕ) → times n (xs ++ ys) ≡ times n xs + times n ys
times_append n [] ys = omega arith
times_append n (x ∷ xs) ys = omega (arith, times_append n xs ys)

-- ---- one history

chosen_one : (b : Bool) → (if b then 1 else 0) ≤ 1
chosen_one true = omega arith
chosen_one false = omega arith

hit_one : (n : ℕ) (r : Reply) → hit n r ≤ 1
hit_one n (R.Opened m) = chosen_one (eqb m n)
hit_one n R.Done = omega arith
hit_one n (R.Messages texts) = omega arith
hit_one n R.Gone = omega arith
hit_one n R.Overrun = omega arith
hit_one n (R.Stopped m) = omega arith
hit_one n R.Memory = omega arith

hit_low : (n before : ℕ) (r : Reply) → n ≤ before → FitsAfter before r → hit n r ≡ 0
hit_low n before (R.Opened m) low fits = ap (λ (b : Bool). if b then 1 else 0) (ne_eqb m n (λ e. omega arith))
hit_low n before R.Done low fits = refl
hit_low n before (R.Messages texts) low fits = refl
hit_low n before R.Gone low fits = refl
hit_low n before R.Overrun low fits = refl
hit_low n before (R.Stopped m) low fits = refl
hit_low n before R.Memory low fits = refl

opened_cases : (n m before : ℕ) (b : Bool) → eqb m n ≡ b → m ≡ before + 1 → (hit n (R.Opened m) ≡ 0) ⊎ (n ≤ 1 + before)
opened_cases n m before true e fits = inr (let same = eqb-true m n e in omega arith)
opened_cases n m before false e fits = inl (ap (λ (b : Bool). if b then 1 else 0) e)

-- a reply opens this session, which is then below what comes, or it doesn't
hit_cases : (n before : ℕ) (r : Reply) → FitsAfter before r → (hit n r ≡ 0) ⊎ (n ≤ opened_by r + before)
hit_cases n before (R.Opened m) fits = opened_cases n m before (eqb m n) refl fits
hit_cases n before R.Done fits = inl refl
hit_cases n before (R.Messages texts) fits = inl refl
hit_cases n before R.Gone fits = inl refl
hit_cases n before R.Overrun fits = inl refl
hit_cases n before (R.Stopped m) fits = inl refl
hit_cases n before R.Memory fits = inl refl

legal_low : (n : ℕ) (past : List (Call × Reply)) (log : List (Entry Call Reply)) → n ≤ opens past → LegalFrom Fits past log → opens_of n (events log) ≡ 0
legal_low n past [] low legal = refl
legal_low n past (e ∷ es) low legal =
    let here = hit_low n (opens past) e.reply low legal.0 in let more = opens_more past e.call e.reply in
    let rest = legal_low n (past ++ (e.call, e.reply) ∷ []) es (omega arith) legal.1 in omega arith

pub legal_once : (n : ℕ) (past : List (Call × Reply)) (log : List (Entry Call Reply)) → LegalFrom Fits past log → opens_of n (events log) ≤ 1
legal_once n past [] legal = omega arith
legal_once n past (e ∷ es) legal =
    let more = opens_more past e.call e.reply in
    ⊎_elim
    (λ none. let rest = legal_once n (past ++ (e.call, e.reply) ∷ []) es legal.1 in omega arith)
    (λ low. let rest = legal_low n (past ++ (e.call, e.reply) ∷ []) es (omega arith) legal.1 in let one = hit_one n e.reply in omega arith)
    (hit_cases n (opens past) e.reply legal.0)

-- ---- the passes of one history

abbrev pub total : ℕ → List (ℕ × List (Call × Reply)) → List (Entry Call Reply) → ℕ
total n [] log = 0
total n (x ∷ xs) log = opens_of n (calls_by x.0 log) + total n xs log

total_other : (n : ℕ) (xs : List (ℕ × List (Call × Reply))) (e : Entry Call Reply) (es : List (Entry Call Reply)) → Each (λ y. e.by ≢ y.0) xs → total n xs (e ∷ es) ≡ total n xs es
total_other n [] e es h = refl
total_other n (x ∷ xs) e es h = let rest = total_other n xs e es h.1 in
    let same : opens_of n (calls_by x.0 (e ∷ es)) ≡ opens_of n (calls_by x.0 es) = ap (λ (b : Bool). opens_of n (if b then (e.call, e.reply) ∷ calls_by x.0 es else calls_by x.0 es)) (ne_eqb e.by x.0 h.0) in omega arith

total_step : (n : ℕ) (x : ℕ × List (Call × Reply)) (xs : List (ℕ × List (Call × Reply))) (e : Entry Call Reply) (es : List (Entry Call Reply)) (b : Bool) → eqb e.by x.0 ≡ b → Apart (x ∷ xs) → total n xs (e ∷ es) ≤ hit n e.reply + total n xs es
    → total n (x ∷ xs) (e ∷ es) ≤ hit n e.reply + total n (x ∷ xs) es
total_step n x xs e es true k apart later = let same = eqb-true e.by x.0 k in
    let here : opens_of n (calls_by x.0 (e ∷ es)) ≡ hit n e.reply + opens_of n (calls_by x.0 es) = ap (λ (b : Bool). opens_of n (if b then (e.call, e.reply) ∷ calls_by x.0 es else calls_by x.0 es)) k in
    let rest = total_other n xs e es (subst (λ m. Each (λ y. m ≢ y.0) xs) (sym same) apart.0) in omega arith
total_step n x xs e es false k apart later =
    let here : opens_of n (calls_by x.0 (e ∷ es)) ≡ opens_of n (calls_by x.0 es) = ap (λ (b : Bool). opens_of n (if b then (e.call, e.reply) ∷ calls_by x.0 es else calls_by x.0 es)) k in omega arith

total_cons : (n : ℕ) (xs : List (ℕ × List (Call × Reply))) (e : Entry Call Reply) (es : List (Entry Call Reply)) → Apart xs → total n xs (e ∷ es) ≤ hit n e.reply + total n xs es
total_cons n [] e es apart = omega arith
total_cons n (x ∷ xs) e es apart = total_step n x xs e es (eqb e.by x.0) refl apart (total_cons n xs e es apart.1)

total_none : (n : ℕ) (xs : List (ℕ × List (Call × Reply))) → total n xs [] ≡ 0
total_none n [] = refl
total_none n (x ∷ xs) = omega (arith, total_none n xs)

pub total_all : (n : ℕ) (xs : List (ℕ × List (Call × Reply))) (log : List (Entry Call Reply)) → Apart xs → total n xs log ≤ opens_of n (events log)
total_all n xs [] apart = let none = total_none n xs in omega arith
total_all n xs (e ∷ es) apart = let here = total_cons n xs e es apart in let rest = total_all n xs es apart in omega arith

-- ---- the links that were served

module _ {T : Type 0} (heard_by : T → List Heard) (sent_by : T → List (List ℕ)) (faults : T → ℕ) (opened : T → ℕ) (is_shut : T → Bool) where
  entry_number : (n : ℕ) (e : Served T) (own : List (Call × Reply)) (session : Option ℕ) → session ≡ e.session → IsEntry heard_by sent_by faults opened is_shut e own → times n (number_of session) ≤ opens_of n own
  entry_number n e own None same is = omega arith
  entry_number n e own (Some s) same is = let k = subst (λ o. IsSession (opened e.line) own (heard_by e.line) (sent_by e.line) (0 < faults e.line) o e.ended) (sym same) is.0 in
      let first : opens_of n own ≡ (if eqb s n then 1 else 0) + opens_of n (k.0 ++ k.1) = ap (opens_of n) k.2 in omega arith

  entries_numbers : (n : ℕ) (es : List (Served T)) (calls : List (Call × Reply)) → AreEntries heard_by sent_by faults opened is_shut es calls → times n (numbers_of es) ≤ opens_of n calls
  entries_numbers n [] calls h = omega arith
  entries_numbers n (e ∷ es) calls h = let here = entry_number n e h.0 e.session refl h.3 in let rest = entries_numbers n es h.1 h.4 in
      let both : opens_of n calls ≡ opens_of n h.0 + opens_of n h.1 = ap (opens_of n) h.2 ∙ opens_append n h.0 h.1 in let split = times_append n (number_of e.session) (numbers_of es) in omega arith

  all_more : (n : ℕ) (xs : List (List (Served T))) (x : List (Served T)) → times n (all_numbers (xs ++ x ∷ [])) ≡ times n (all_numbers xs) + times n (numbers_of x)
  all_more n [] x = let a = times_append n (numbers_of x) [] in omega arith
  all_more n (y ∷ ys) x = let a = all_more n ys x in let b = times_append n (numbers_of y) (all_numbers (ys ++ x ∷ [])) in let c = times_append n (numbers_of y) (all_numbers ys) in omega arith

  accounts_numbers : (n : ℕ) (served : List (List (Served T))) (xs : List (ℕ × List (Call × Reply))) (log : List (Entry Call Reply)) → Accounts heard_by sent_by faults opened is_shut served xs → Each (λ x. calls_by x.0 log ≡ x.1) xs → times n (all_numbers served) ≤ total n xs log
  accounts_numbers n served [] log h own = let none : times n (all_numbers served) ≡ 0 = ap (λ l. times n (all_numbers l)) h in omega arith
  accounts_numbers n served (x ∷ xs) log h own =
      let cut : times n (all_numbers served) ≡ times n (all_numbers h.0) + times n (numbers_of h.1) = ap (λ l. times n (all_numbers l)) h.2 ∙ all_more n h.0 h.1 in
      let last = entries_numbers n h.1 x.1 h.3 in let rest = accounts_numbers n h.0 xs log h.4 own.1 in
      let same : opens_of n (calls_by x.0 log) ≡ opens_of n x.1 = ap (opens_of n) own.0 in omega arith

  pub none_twice : {D : Type 0} (may_leave : D → List ℕ → Type 0) (told : D → Option (List ℕ)) (disk_faults : D → ℕ) (old new : KeptRoom D) (served : List (List (Served T))) (memory : Bool) (stopped : Option StopCause)
      → IsServed heard_by sent_by faults opened is_shut (MayReply may_leave) base_of (HasLived may_leave told disk_faults) old new served memory stopped
      → (digest : List ℕ) (seed : Seed) (journal : List Record) (place : ℕ) → Began may_leave digest seed journal place (origin_of old) → NoneTwice (all_numbers served)
  none_twice may_leave told disk_faults old new served memory stopped h digest seed journal place began n = ⊎_elim
      (λ k. let one = k.3 in let all = accounts_numbers n served one.pass.ended one.pass.seen one.accounts one.whole.1.1.1 in
      let some = total_all n one.pass.ended one.pass.seen one.whole.1.0.1 in let once = legal_once n [] one.pass.seen (legal_fits may_leave digest seed journal place (origin_of old) began [] one.pass.seen one.legal) in omega arith)
      (λ k. let none : times n (all_numbers served) ≡ 0 = ap (λ l. times n (all_numbers l)) k.1 in omega arith)
      h
