-- The copy of a segment has the next place, or the mark: what a half keeps then, and what is due of it.
use Rattle.std.proofs.Common.{◌≡◌, ◌≢◌, inl, inr, ℕ, ◌+◌, ◌*◌, ◌<◌, ◌≤◌, Bool, true, false, ◌&&◌, ◌||◌, not, cond, eqb, List, length, set, Ok, Option, None, Some, ◌∙◌, sym, refl, ap, subst, arith}
use Rattle.std.specs.Prelude.{nat_lt}
use Rattle.std.proofs.Math.Path.{fun_ext}
use Rattle.std.proofs.lemmas.Bool.{cases_eq, cases_lt}
use Rattle.std.proofs.lemmas.Bool.Decides.{nat_tests}
use Rattle.std.proofs.lemmas.List.{get_or-set_same, get_or-set_other, get_or_past, length-set}
use Rattle.avs_seg.specs.Image.{is_inside}
use Rattle.avs_seg.specs.Segment.{first_segment, touch_count}
use Rattle.avs_bits.specs.BitSet.{set_of}
use Rattle.avs_refs.specs.Places.{Places, Adds, greatest_at, is_touched}
use Rattle.avs_mqueue.specs.Queue.{Queue, Pushes}
use Rattle.avs_model.specs.declared.entry.Entry.{Entry}
use Rattle.avs_mirrors.specs.Due.{copied_due}
use Rattle.avs_mirrors.specs.Entries.{a_mark}
use Rattle.avs_mirrors.specs.Half.{State, Replicating, is_session, is_acting_state}
use Rattle.avs_sync.specs.Session.{marked, placed}
use Rattle.avs_sync.specs.declared.session.Session.{Session}
use Rattle.avs_halves.specs.SetBits.{set_at, has_bit}
use Rattle.avs_sender.specs.Held.{SenderHalf, SetPlaces}
use Rattle.avs_sender.specs.Kept.{ArePlacesIn, ArePlacesOf, IsDueIn, IsInSession, IsKept}
use Rattle.avs_sender.specs.Learning.{half_with}
use Rattle.avs_sender.specs.Meaning.{due_of, waits}
use Rattle.avs_sender.specs.Places.{places_in}
use Rattle.avs_sender.specs.Waits.{waits_at}
use Rattle.avs_sender.specs.Placing.{HasCopied, HasMarked, HasRoom, IsCopyOf, IsEntryOver, NoneIsWaiting}
use Rattle.avs_halves.proofs.Following.{changes_none}
use Rattle.avs_sender.proofs.Learned.{none_at, sends_if}
use Rattle.avs_sender.proofs.Placed.{copied_due_one, due_one, holds_more, kept_with, place_other, place_there, places_kept, places_more, session_placed}

never : (b : Bool) → b ≡ false → b ≡ true → ⊥
never b off on = cc

low_is : (a b : ℕ) (x : Bool) → (nat_lt a b && x) ≡ true → a < b
low_is a b x on = grind (arith, nat_tests)

-- ---- the one segment of a copy

first_is : (at seg : ℕ) → at ≡ 64 * seg → first_segment at ≡ seg
first_is at seg is = omega (arith, is)

count_is : (at len seg : ℕ) → at ≡ 64 * seg → 0 < len → len ≤ 64 → touch_count at len ≡ 1
count_is at len seg is some short = omega (arith, is, some, short)

one_inside : (seg s : ℕ) → is_inside seg 1 s ≡ eqb s seg
one_inside seg s = grind (arith, nat_tests)

pub touched_one : (at len seg s : ℕ) → at ≡ 64 * seg → 0 < len → len ≤ 64 → is_touched at len s ≡ eqb s seg
touched_one at len seg s is some short = ap (λ (n : ℕ). is_inside n (touch_count at len) s) (first_is at seg is) ∙ ap (λ (n : ℕ). is_inside seg n s) (count_is at len seg is some short) ∙ one_inside seg s

-- ---- which segments wait

eqb_same : (n : ℕ) → eqb n n ≡ true
eqb_same n = grind (arith, nat_tests)

eqb_apart : (a b : ℕ) → a ≢ b → eqb a b ≡ false
eqb_apart a b ne = grind (arith, nat_tests)

eqb_is : (a b : ℕ) → eqb a b ≡ true → a ≡ b
eqb_is a b on = grind (arith, nat_tests)

and_none : (b : Bool) → (b && false) ≡ false
and_none true = refl
and_none false = refl

and_all : (b : Bool) → (b && true) ≡ b
and_all true = refl
and_all false = refl

pub waiting_low : (w : List Bool) (seg : ℕ) → waits_at w seg ≡ true → seg < length w
waiting_low w seg on = elim (cases_lt seg (length w)) [
  | inl low ↦ low
  | inr past ↦ absurd (never (waits_at w seg) (get_or_past w seg false past) on)
]

waits_then : (w : List Bool) (seg s : ℕ) → seg < length w → waits_at (set w seg false) s ≡ (waits_at w s && not (eqb s seg))
waits_then w seg s low = elim (cases_eq s seg) [
  | inl same ↦ ap (λ (k : ℕ). waits_at (set w seg false) k) same ∙ get_or-set_same w seg false false low
      ∙ sym (ap (λ (b : Bool). waits_at w s && not b) (ap (λ (k : ℕ). eqb k seg) same ∙ eqb_same seg) ∙ and_none (waits_at w s))
  | inr ne ↦ get_or-set_other w seg s false false ne ∙ sym (ap (λ (b : Bool). waits_at w s && not b) (eqb_apart s seg ne) ∙ and_all (waits_at w s))
]

both_on : (a b : Bool) → a ≡ true → b ≡ true → (a && b) ≡ true
both_on a b x y = ap (λ (c : Bool). c && b) x ∙ y

assoc : (a b c : Bool) → (a && (b && c)) ≡ ((a && b) && c)
assoc true b c = refl
assoc false b c = refl

left_of : (a b : Bool) → (a && b) ≡ true → a ≡ true
left_of true b on = refl
left_of false b on = absurd (never false refl on)

or_same : (t b : Bool) → (t ≡ true → b ≡ true) → b ≡ (t || b)
or_same true b on = on refl
or_same false b on = refl

-- ---- what is due in a session

abbrev in_state : Bool → Bool → Bool → ℕ → Option ℕ
in_state bit on w k = cond bit (Some (cond on (cond w 0 k) 0)) None

pub not_zero : (bit on w : Bool) (k : ℕ) → on ≡ true → w ≡ false → (bit ≡ true → 0 < k) → in_state bit on w k ≡ Some 0 → ⊥
not_zero true on w k is off some zero = none (some refl) (sym (ap (λ (b : Bool). Some (cond b (cond w 0 k) 0)) is ∙ ap (λ (b : Bool). Some (cond b 0 k)) off) ∙ zero)
  where
    none : 0 < k → Some k ≡ Some 0 → ⊥
    none some is = cc_of (ap (λ (o : Option ℕ). Rattle.std.specs.Option.option_map_or (λ (n : ℕ). n) o 0) is) some
      where
        cc_of : ◌≡◌ {A = ℕ} k 0 → 0 < k → ⊥
        cc_of is some = omega (arith, is, some)
not_zero false on w k is off some zero = absurd (cc)

module _ (h : SenderHalf) (kept : IsKept h) (on : is_session h.session.state ≡ true) where
  -- a segment that does not wait has a place, or is not due
  pub not_due : (t s : ℕ) → waits_at (places_in h.places t).waiting s ≡ false → due_of h t s ≡ Some 0 → ⊥
  not_due t s off = not_zero (has_bit (set_at h.sets t) s) (is_session h.session.state) (waits h.session (places_in h.places t) s) (greatest_at (places_in h.places t).touched s) on
      (ap (λ (b : Bool). eqb h.session.mark 0 && b) off ∙ and_none (eqb h.session.mark 0))
      (λ has. elim (cases_lt t (length h.sets)) [
        | inl low ↦ ((kept.sends on).due t s low).placed has (ap (λ (b : Bool). eqb h.session.mark 0 && b) off ∙ and_none (eqb h.session.mark 0))
        | inr past ↦ absurd (never (has_bit (set_at h.sets t) s) (none_at h.sets t s past) has)
      ])

  -- one that waits is due, and no place frees it
  pub zero_due : (t s : ℕ) → t < length h.sets → h.session.mark ≡ 0 → waits_at (places_in h.places t).waiting s ≡ true → due_of h t s ≡ Some 0
  zero_due t s low unmarked on' =
      let w = both_on (eqb h.session.mark 0) (waits_at (places_in h.places t).waiting s) (ap (λ (k : ℕ). eqb k 0) unmarked) on' in
      ap (λ (b : Bool). in_state b (is_session h.session.state) (waits h.session (places_in h.places t) s) (greatest_at (places_in h.places t).touched s)) (((kept.sends on).due t s low).waiting w)
      ∙ ap (λ (b : Bool). in_state true b (waits h.session (places_in h.places t) s) (greatest_at (places_in h.places t).touched s)) on
      ∙ ap (λ (b : Bool). in_state true true b (greatest_at (places_in h.places t).touched s)) w

-- ---- a copy

module _ (h : SenderHalf) (e : Entry) (seg at len : ℕ) (kept : IsKept h) (room : HasRoom h e) (over : IsEntryOver h e at len) (copy : IsCopyOf h e seg)
    (q : Places) (queue : Queue) (adds : Adds (places_in h.places e.set).touched (h.session.last + 1) e.at (length e.bytes) q) (pushes : Pushes h.queue (h.session.last + 1) e queue) where
  abbrev was : SetPlaces
  was = places_in h.places e.set

  abbrev now : SetPlaces
  now = record { touched = q; waiting = set (places_in h.places e.set).waiting seg false }

  abbrev pub copies_then : List SetPlaces
  copies_then = set h.places e.set (record { touched = q; waiting = set (places_in h.places e.set).waiting seg false })

  in_session : IsInSession h
  in_session = kept.sends room.session

  there : e.set < length h.places
  there = omega (arith, over.there, kept.count)

  each : (P : ℕ → SetPlaces → Type 0) → P e.set now → ((t : ℕ) → t ≢ e.set → P t (places_in h.places t)) → (t : ℕ) → P t (places_in copies_then t)
  each P here others t = elim (cases_eq t e.set) [
    | inl same ↦ subst (λ (k : ℕ). P k (places_in copies_then k)) (sym same) (subst (λ (p : SetPlaces). P e.set p) (sym (place_there h.places e.set now there)) here)
    | inr ne ↦ subst (λ (p : SetPlaces). P t p) (sym (place_other h.places e.set t now ne)) (others t ne)
  ]

  of_here : ArePlacesOf (set_at h.sets e.set) h.queue.limits.writes was
  of_here = kept.places e.set over.there

  seg_waits : waits h.session was seg ≡ true
  seg_waits = both_on (eqb h.session.mark 0) (waits_at was.waiting seg) (ap (λ (k : ℕ). eqb k 0) copy.unmarked) copy.waits

  -- it waits no more, and the others as before
  waits_now : (s : ℕ) → waits h.session now s ≡ (waits h.session was s && not (eqb s seg))
  waits_now s = ap (λ (b : Bool). eqb h.session.mark 0 && b) (waits_then was.waiting seg s (waiting_low was.waiting seg copy.waits)) ∙ assoc (eqb h.session.mark 0) (waits_at was.waiting s) (not (eqb s seg))

  -- it has a bit
  has_one : (s : ℕ) → eqb s seg ≡ true → has_bit (set_at h.sets e.set) s ≡ true
  has_one s is = subst (λ (k : ℕ). has_bit (set_at h.sets e.set) k ≡ true) (sym (eqb_is s seg is)) ((in_session.due e.set seg over.there).waiting seg_waits)

  greatest_now : (s : ℕ) → has_bit (set_at h.sets e.set) s ≡ true → greatest_at q s ≡ cond (eqb s seg) (h.session.last + 1) (greatest_at was.touched s)
  greatest_now s on = adds.greatest s (omega (arith, low_is s (set_at h.sets e.set).bits.segs (set_of (set_at h.sets e.set).bits s) on, of_here.segs))
      ∙ ap (λ (b : Bool). cond b (h.session.last + 1) (greatest_at was.touched s)) (touched_one e.at (length e.bytes) seg s copy.at_is (omega (arith, over.some, over.count)) copy.short)

  fewer_one : (w t : Bool) → (w && not t) ≡ true → w ≡ true
  fewer_one w t on = left_of w (not t) on

  same_one : (w t w' : Bool) → w' ≡ (w && not t) → t ≡ false → w' ≡ w
  same_one w t w' is off = is ∙ ap (λ (b : Bool). w && not b) off ∙ and_all w

  due_here : (s : ℕ) → IsDueIn (placed h.session) (set_at h.sets e.set) now s
  due_here s =
      let d = in_session.due e.set s over.there in
      let both = due_one (eqb s seg) (has_bit (set_at h.sets e.set) s) (has_bit (set_at h.sets e.set) s) (waits h.session was s) (waits h.session now s) (greatest_at was.touched s) (greatest_at q s) h.session.last
      (or_same (eqb s seg) (has_bit (set_at h.sets e.set) s) (has_one s)) (λ on. fewer_one (waits h.session was s) (eqb s seg) (sym (waits_now s) ∙ on)) (λ off. same_one (waits h.session was s) (eqb s seg) (waits h.session now s) (waits_now s) off) (greatest_now s) d.waiting d.placed in
      record { waiting = both.0; placed = both.1 }

  pub kept_copied : IsKept (half_with h h.sets copies_then (placed h.session) queue)
  kept_copied = kept_with {E = Unit {0}} (λ t s. false) true (Ok (tt {0})) h h.sets copies_then (placed h.session) queue kept (changes_none true h.sets tt) (length-set h.places e.set now)
      (each (λ t p. t < length h.sets → ArePlacesOf (set_at h.sets t) h.queue.limits.writes p)
      (λ low. record { segs = adds.segs ∙ of_here.segs; waiting = length-set was.waiting seg false ∙ of_here.waiting; room = adds.room ∙ of_here.room })
      (λ t ne low. kept.places t low))
      pushes.limits (session_placed h.note h.session kept.session room.session room.last) room.session
      (record {
        queue = holds_more h.session h.queue queue e in_session.queue kept.session.known pushes;
        places = each (λ t p. t < length h.sets → ArePlacesIn (placed h.session) p)
            (λ low. places_more h.session was now (in_session.places e.set over.there) kept.session.known e.at (length e.bytes) adds)
            (λ t ne low. places_kept h.session (places_in h.places t) (in_session.places t low) kept.session.known);
        due = λ t s low. each (λ t p. t < length h.sets → IsDueIn (placed h.session) (set_at h.sets t) p s)
            (λ low. due_here s)
            (λ t ne low. let d = in_session.due t s low in record { waiting = d.waiting; placed = d.placed })
            t low;
      })

  on_path : (bit w : Bool) (k : ℕ) → in_state bit (is_session h.session.state) w k ≡ cond bit (Some (cond w 0 k)) None
  on_path bit w k = ap (λ (b : Bool). in_state bit b w k) room.session

  due_at : (s t : ℕ) → in_state (has_bit (set_at h.sets t) s) (is_session h.session.state) (waits h.session (places_in copies_then t) s) (greatest_at (places_in copies_then t).touched s)
      ≡ copied_due (due_of h) e.set seg (h.session.last + 1) t s
  due_at s = each (λ t p. in_state (has_bit (set_at h.sets t) s) (is_session h.session.state) (waits h.session p s) (greatest_at p.touched s) ≡ copied_due (due_of h) e.set seg (h.session.last + 1) t s)
      (on_path (has_bit (set_at h.sets e.set) s) (waits h.session now s) (greatest_at q s)
      ∙ copied_due_one (eqb s seg) (has_bit (set_at h.sets e.set) s) (waits h.session was s) (waits h.session now s) (greatest_at was.touched s) (greatest_at q s) (h.session.last + 1) (has_one s) (waits_now s) (greatest_now s)
      ∙ sym (ap (λ (d : Option ℕ). cond (eqb s seg) (Some (h.session.last + 1)) d) (on_path (has_bit (set_at h.sets e.set) s) (waits h.session was s) (greatest_at was.touched s)))
      ∙ sym (ap (λ (b : Bool). cond (b && eqb s seg) (Some (h.session.last + 1)) (due_of h e.set s)) (eqb_same e.set)))
      (λ t ne. sym (ap (λ (b : Bool). cond (b && eqb s seg) (Some (h.session.last + 1)) (due_of h t s)) (eqb_apart t e.set ne)))

  pub has_copied : HasCopied h e seg (half_with h h.sets copies_then (placed h.session) queue)
  has_copied = record {
    rest = refl;
    queue = pushes;
    due = fun_ext (λ t. fun_ext (λ s. due_at s t));
  }

-- ---- the mark

module _ (h : SenderHalf) (kept : IsKept h) (room : HasRoom h a_mark) (unmarked : h.session.mark ≡ 0) (none : NoneIsWaiting h.places) (queue : Queue) (pushes : Pushes h.queue (h.session.last + 1) a_mark queue) where
  was_in : IsInSession h
  was_in = kept.sends room.session

  state_is : (marked h.session).state ≡ h.session.state
  state_is = ap (λ (b : Bool). cond b h.session.state Replicating) (sends_if h.note h.session kept.session room.session)

  more_none : (n : ℕ) (b : Bool) → (eqb (n + 1) 0 && b) ≡ false
  more_none n b = grind (arith, nat_tests)

  -- none waits behind the mark, and none did
  none_now : (p : SetPlaces) (s : ℕ) → waits (marked h.session) p s ≡ false
  none_now p s = more_none h.session.last (waits_at p.waiting s)

  none_then : (t s : ℕ) → waits h.session (places_in h.places t) s ≡ false
  none_then t s = ap (λ (b : Bool). eqb h.session.mark 0 && b) (none t s) ∙ and_none (eqb h.session.mark 0)

  pub kept_marked : IsKept (half_with h h.sets h.places (marked h.session) queue)
  kept_marked =
      let s = session_placed h.note h.session kept.session room.session room.last in
      let holds = holds_more h.session h.queue queue a_mark was_in.queue kept.session.known pushes in
      kept_with {E = Unit {0}} (λ t s. false) true (Ok (tt {0})) h h.sets h.places (marked h.session) queue kept (changes_none true h.sets tt) refl (λ t low. kept.places t low) pushes.limits
      (record {
        number = s.number;
        reverse = s.reverse;
        sender = s.sender;
        last = s.last;
        known = s.known;
        mark = s.last;
        role = λ on. kept.session.role room.session;
        acting = λ on. subst (λ (x : State). is_acting_state x ≡ true) (sym state_is) (kept.session.acting room.session);
        idle = s.idle;
      })
      (ap (λ (x : State). is_session x) state_is ∙ room.session)
      (record {
        queue = record { count = holds.count; next = holds.next };
        places = λ t low. let p = places_kept h.session (places_in h.places t) (was_in.places t low) kept.session.known in record { above = p.above; few = p.few; later = p.later; drained = p.drained };
        due = λ t s low. record {
          waiting = λ on. absurd (never (waits (marked h.session) (places_in h.places t) s) (none_now (places_in h.places t) s) on);
          placed = λ has off. (was_in.due t s low).placed has (none_then t s);
        };
      })

  due_marked : (t s : ℕ) → due_of (half_with h h.sets h.places (marked h.session) queue) t s ≡ due_of h t s
  due_marked t s =
      ap (λ (x : State). in_state (has_bit (set_at h.sets t) s) (is_session x) (waits (marked h.session) (places_in h.places t) s) (greatest_at (places_in h.places t).touched s)) state_is
      ∙ ap (λ (b : Bool). in_state (has_bit (set_at h.sets t) s) (is_session h.session.state) b (greatest_at (places_in h.places t).touched s)) (none_now (places_in h.places t) s ∙ sym (none_then t s))

  pub has_marked : HasMarked h (half_with h h.sets h.places (marked h.session) queue)
  has_marked = record { rest = refl; queue = pushes; due = fun_ext (λ t. fun_ext (λ s. due_marked t s)) }

-- ---- as the code has it

module _ (h : SenderHalf) (writes : ℕ) (e : Entry) (seg at len : ℕ) (both : IsKept h × (writes ≡ h.queue.limits.writes)) (room : HasRoom h e) (over : IsEntryOver h e at len) (copy : IsCopyOf h e seg)
    (was_is : SetPlaces) (q : Places) (w : List Bool) (places : List SetPlaces) (session : Session) (queue : Queue) (is : places_in h.places e.set ≡ was_is) (w_is : w ≡ set was_is.waiting seg false) (adds : Adds was_is.touched (h.session.last + 1) at len q)
    (pushes : Pushes h.queue (h.session.last + 1) e queue) (placed_is : session ≡ placed h.session) (set_is : places ≡ set h.places e.set (record { touched = q; waiting = w })) where
  adds_then : Adds (places_in h.places e.set).touched (h.session.last + 1) e.at (length e.bytes) q
  adds_then = subst (λ (p : SetPlaces). Adds p.touched (h.session.last + 1) e.at (length e.bytes) q) (sym is)
      (subst (λ (n : ℕ). Adds was_is.touched (h.session.last + 1) n (length e.bytes) q) (sym over.at_is) (subst (λ (n : ℕ). Adds was_is.touched (h.session.last + 1) at n q) (sym over.count) adds))

  places_are : set h.places e.set (record { touched = q; waiting = set (places_in h.places e.set).waiting seg false }) ≡ places
  places_are = ap (λ (l : List Bool). set h.places e.set (record { touched = q; waiting = l })) (ap (λ (p : SetPlaces). set p.waiting seg false) is ∙ sym w_is) ∙ sym set_is

  pub copies_kept : IsKept (half_with h h.sets places session queue) × (writes ≡ queue.limits.writes)
  copies_kept = (
    subst (λ (s : Session). IsKept (half_with h h.sets places s queue)) (sym placed_is) (subst (λ (l : List SetPlaces). IsKept (half_with h h.sets l (placed h.session) queue)) places_are
        (kept_copied h e seg at len both.0 room over copy q queue adds_then pushes)),
    both.1 ∙ ap (λ l. l.writes) (sym pushes.limits),
  )

  pub copies_placed : HasCopied h e seg (half_with h h.sets places session queue)
  copies_placed = subst (λ (s : Session). HasCopied h e seg (half_with h h.sets places s queue)) (sym placed_is) (subst (λ (l : List SetPlaces). HasCopied h e seg (half_with h h.sets l (placed h.session) queue)) places_are
      (has_copied h e seg at len both.0 room over copy q queue adds_then pushes))

module _ (h : SenderHalf) (writes : ℕ) (e : Entry) (both : IsKept h × (writes ≡ h.queue.limits.writes)) (room : HasRoom h e) (unmarked : h.session.mark ≡ 0) (none : NoneIsWaiting h.places) (is : e ≡ a_mark)
    (session : Session) (queue : Queue) (pushes : Pushes h.queue (h.session.last + 1) e queue) (marked_is : session ≡ marked h.session) where
  room_then : HasRoom h a_mark
  room_then = subst (λ (x : Entry). HasRoom h x) is room

  pushes_then : Pushes h.queue (h.session.last + 1) a_mark queue
  pushes_then = subst (λ (x : Entry). Pushes h.queue (h.session.last + 1) x queue) is pushes

  pub marks_kept : IsKept (half_with h h.sets h.places session queue) × (writes ≡ queue.limits.writes)
  marks_kept =
      (subst (λ (s : Session). IsKept (half_with h h.sets h.places s queue)) (sym marked_is) (kept_marked h both.0 room_then unmarked none queue pushes_then), both.1 ∙ ap (λ l. l.writes) (sym pushes.limits))

  pub marks_placed : HasMarked h (half_with h h.sets h.places session queue)
  marks_placed = subst (λ (s : Session). HasMarked h (half_with h h.sets h.places s queue)) (sym marked_is) (has_marked h both.0 room_then unmarked none queue pushes_then)

-- ---- the least that waits

pub none_more : (places : List SetPlaces) (set : ℕ) → ((t s : ℕ) → t < set → waits_at (places_in places t).waiting s ≡ false) → ((s : ℕ) → waits_at (places_in places set).waiting s ≡ false) → (t s : ℕ) → t < set + 1 → waits_at (places_in places t).waiting s ≡ false
none_more places set before here t s low = elim (cases_lt t set) [
  | inl less ↦ before t s less
  | inr high ↦ subst (λ (k : ℕ). waits_at (places_in places k).waiting s ≡ false) (let e : set ≡ t = omega (arith, low, high) in e) (here s)
]
