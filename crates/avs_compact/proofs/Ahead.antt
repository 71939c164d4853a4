-- Chunks are copied ahead, into slots that are kept for them.
use Rattle.std.proofs.Common.{◌≡◌, ◌≢◌, ◌⊎◌, inl, inr, ℕ, zero, suc, ◌+◌, ◌-◌, ◌*◌, ◌/◌, ◌%◌, ◌^◌, ◌<◌, ◌≤◌, min, Bool, true, false, cond, List, length, filter, take, Option, Some, is_some, Result, Ok, Err, ◌∙◌, sym, refl, ap, subst, arith}
use Rattle.std.specs.Prelude.{nat_lt, ◌&&◌}
use Rattle.std.specs.List.{range_with_len, sum_by}
use Rattle.std.proofs.lemmas.Bool.{cases_lt, false≢true, lt-ltb, le-ltb}
use Rattle.std.proofs.lemmas.Result.{on_ok_weaker}
use Rattle.avs_seg.specs.Image.{block_at}
use Rattle.avs_seg.specs.Segment.{seg_len}
use Rattle.avs_seg.proofs.Exits.{ok_exit, err_exit}
use Rattle.avs_dev.specs.Seen.{Seen}
use Rattle.avs_dev.proofs.Going.{all_same}
use Rattle.avs_over.specs.Slots.{Owners, owner_at, used_in, given_to}
use Rattle.avs_over.specs.Over.{OverSet, slots, used}
use Rattle.avs_entries.specs.Entries.{slot_by, entry_for, entry_in}
use Rattle.avs_entries.specs.Counting.{is_own, is_over}
use Rattle.avs_entries.specs.Slots.{Marks}
use Rattle.avs_entries.specs.Putting.{PutsEntry}
use Rattle.avs_entries.specs.declared.marks.Counts.{Counts}
use Rattle.avs_entries.proofs.Counted.{count_from, count_on}
use Rattle.avs_entries.proofs.Marking.{own_yes, own_no, over_yes, over_no}
use Rattle.avs_compact.specs.CompactSet.{CompactSet, disk_of, entry_of, next_of, chunks_of, in_slot, room_of}
use Rattle.avs_compact.specs.Disks.{disk_at, Adds}
use Rattle.avs_compact.specs.Work.{AddsUpTo, slot_work, slot_most, copy_work, ahead_work, ahead_most}
use Rattle.avs_compact.specs.Steps.{TakesSlot, CopiesIn}
use Rattle.avs_compact.specs.Keeping.{UsesOwnFirst, AreOwnFull}
use Rattle.avs_compact.specs.Ahead.{KeepsAhead, IsKeptFor, CopiesTold, kept_count}
use Rattle.avs_compact.proofs.Work.{up_to, up_to_none, up_to_as, slot_less, sum_one}
use Rattle.avs_compact.proofs.Kept.{free_behind, used_or_kept}
use Rattle.avs_compact.proofs.Placed.{used_below, given_more}
use Rattle.avs_compact.proofs.Settled.{same_slots, keeps_over, same_entries, place_is, place_in, zero_state}
use Rattle.avs_compact.proofs.SettlingNew.{settling_new, free_slot, new_entry, takes_slot}
use Rattle.avs_compact.proofs.Settles.{owners_is, takes, mine, cp}
use Rattle.avs_compact.proofs.Chained.{slots_nothing, blocks_nothing}

-- ---- how many are told

pub count_one : (p : ℕ → Bool) (a : ℕ) → length (filter p (range_with_len a (a + 1 - a))) ≡ cond (p a) 1 0
count_one p a =
    let one : a + 1 - a ≡ suc 0 = omega arith in
    let here : a + 0 ≡ a = omega arith in
    let all : length (filter p (range_with_len a (a + 1 - a))) ≡ 0 + cond {A = ℕ} (p a) 1 0 = ap (λ (k : ℕ). length (filter p (range_with_len a k))) one ∙ count_from p a 0 ∙ ap (λ (k : ℕ). 0 + cond {A = ℕ} (p k) 1 0) here in
    omega (arith, all)

pub count_then : (p : ℕ → Bool) (first c : ℕ) → first ≤ c → length (filter p (range_with_len first (c + 1 - first))) ≡ length (filter p (range_with_len first (c - first))) + cond (p c) 1 0
count_then p first c low =
    let more : c + 1 - first ≡ c - first + 1 = omega (arith, low) in
    let here : first + (c - first) ≡ c = omega (arith, low) in
    ap (λ (k : ℕ). length (filter p (range_with_len first k))) more ∙ count_on p first (c - first) ∙ ap (λ (k : ℕ). length (filter p (range_with_len first (c - first))) + cond (p k) 1 0) here

pub count_same_on : (p q : ℕ → Bool) (a n : ℕ) → ((k : ℕ) → a ≤ k → k < a + n → q k ≡ p k) → length (filter q (range_with_len a n)) ≡ length (filter p (range_with_len a n))
count_same_on p q a zero same = refl
count_same_on p q a (suc n) same =
    let last : ◌≡◌ {A = ℕ} (cond (q (a + n)) 1 0) (cond (p (a + n)) 1 0) = ap (λ (b : Bool). cond b 1 0) (same (a + n) (omega arith) (omega arith)) in
    let rest = count_same_on p q a n (λ k low lt. same k low (omega (arith, lt))) in
    omega (arith, count_from p a n, count_from q a n, last, rest)

count_less : (p : ℕ → Bool) (first n k : ℕ) → length (filter p (range_with_len first n)) ≤ length (filter p (range_with_len first (n + k)))
count_less p first n zero = (let e : n ≡ n + 0 = omega arith in subst (λ (j : ℕ). length (filter p (range_with_len first n)) ≤ length (filter p (range_with_len first j))) e (omega arith))
count_less p first n (suc k) =
    let e : n + k + 1 ≡ n + suc k = omega arith in
    subst (λ (j : ℕ). length (filter p (range_with_len first n)) ≤ length (filter p (range_with_len first j))) e (omega (arith, count_less p first n k, count_on p first (n + k)))

pub count_upto : (p : ℕ → Bool) (first c end : ℕ) → first ≤ c → c < end → length (filter p (range_with_len first (c - first))) + cond (p c) 1 0 ≤ length (filter p (range_with_len first (end - first)))
count_upto p first c end low lt =
    let e : c + 1 - first + (end - (c + 1)) ≡ end - first = omega (arith, low, lt) in
    let less = count_less p first (c + 1 - first) (end - (c + 1)) in
    let all : length (filter p (range_with_len first (c + 1 - first + (end - (c + 1))))) ≡ length (filter p (range_with_len first (end - first))) = ap (λ (k : ℕ). length (filter p (range_with_len first k))) e in
    omega (arith, less, all, count_then p first c low)

pub count_split : (p : ℕ → Bool) (first c end : ℕ) → first ≤ c → c ≤ end → length (filter p (range_with_len first (end - first))) ≡ length (filter p (range_with_len first (c - first))) + length (filter p (range_with_len c (end - c)))
count_split p first c end low high =
    let whole : end - first ≡ c - first + (end - c) = omega (arith, low, high) in
    let here : first + (c - first) ≡ c = omega (arith, low) in
    ap (λ (k : ℕ). length (filter p (range_with_len first k))) whole
    ∙ parts p first (c - first) (end - c)
    ∙ ap (λ (k : ℕ). length (filter p (range_with_len first (c - first))) + length (filter p (range_with_len k (end - c)))) here
  where
    parts : (p : ℕ → Bool) (a n k : ℕ) → length (filter p (range_with_len a (n + k))) ≡ length (filter p (range_with_len a n)) + length (filter p (range_with_len (a + n) k))
    parts p a n zero = (let e : n + 0 ≡ n = omega arith in ap (λ (j : ℕ). length (filter p (range_with_len a j))) e) ∙ omega arith
    parts p a n (suc k) =
        let e : n + suc k ≡ suc (n + k) = omega arith in
        let at : a + n + k ≡ a + (n + k) = omega arith in
        let last : ◌≡◌ {A = ℕ} (cond (p (a + n + k)) 1 0) (cond (p (a + (n + k))) 1 0) = ap (λ (j : ℕ). cond (p j) 1 0) at in
        let all : length (filter p (range_with_len a (n + suc k))) ≡ length (filter p (range_with_len a (suc (n + k)))) = ap (λ (j : ℕ). length (filter p (range_with_len a j))) e in
        omega (arith, all, count_from p a (n + k), parts p a n k, count_from p (a + n) k, last)

-- ---- how many blocks are written

ahead_one : (f : ℕ → ℕ) (told : ℕ → Bool) (c : ℕ) → told c ≡ true → sum_by (λ k. cond (told k) (f k) 0) (range_with_len c (c + 1 - c)) ≡ f c
ahead_one f told c is =
    let one : c + 1 - c ≡ 1 = omega arith in
    ap (λ (k : ℕ). sum_by (λ j. cond (told j) (f j) 0) (range_with_len c k)) one ∙ sum_one (λ j. cond (told j) (f j) 0) c ∙ ap (λ (b : Bool). cond b (f c) 0) is

ahead_not : (f : ℕ → ℕ) (told : ℕ → Bool) (c : ℕ) → told c ≡ false → sum_by (λ k. cond (told k) (f k) 0) (range_with_len c (c + 1 - c)) ≡ 0
ahead_not f told c is =
    let one : c + 1 - c ≡ 1 = omega arith in
    ap (λ (k : ℕ). sum_by (λ j. cond (told j) (f j) 0) (range_with_len c k)) one ∙ sum_one (λ j. cond (told j) (f j) 0) c ∙ ap (λ (b : Bool). cond b (f c) 0) is

-- ---- one chunk

module _ (s : CompactSet) (chunk slot : ℕ) (o o1 o' : OverSet) (table : Owners) (counts : Counts) (marks : Marks (entry_of s) s.own (chunks_of s) table counts) (inside : s.low ≤ length table) (kept : used_in (take s.low table) + s.ahead ≡ s.low)
    (t : TakesSlot table s.low s.set o (Some slot) o1)
    (there : chunk < chunks_of s) (none : entry_of s chunk ≡ 0) (X : Option Seen) (still : is_some X ≡ is_some s.shadow) (m m' : Seen) {T E : Type 0} (r : Result T E)
    (at len : ℕ) (at_is : at ≡ 64 * chunk) (len_is : len ≡ seg_len chunk s.blocks) (copies : CopiesIn m (disk_of s.shadow) o1 s.own slot at len r m' (disk_of X) o') where
  abbrev with_copy : List ℕ → ℕ → ℕ → CompactSet
  with_copy N L A = record s { shadow = X; next = N; low = L; ahead = A }

  owners : o'.owners ≡ o1.owners
  owners = owners_is s chunk slot o o1 o' table counts marks inside kept t there none X still m m' r at len at_is len_is copies

  free_behind_low : slot < s.own → used_in table + s.ahead < length table
  free_behind_low low = (let l : slot < length table = omega (arith, low, marks.long) in free_behind table s.low s.ahead inside kept slot (t.least l).0 l (t.own l).0)

  keeps_ahead : (N : List ℕ) (L A : ℕ) → (UsesOwnFirst s → UsesOwnFirst (with_copy N L A)) → KeepsAhead s o m r (with_copy N L A) o' m'
  keeps_ahead N L A first =
      let c = cp s chunk slot o o1 o' table counts marks inside kept t there none X still m m' r at len at_is len_is copies in
      let may = settling_new s chunk slot there none marks.form in
      let free = free_slot s chunk slot o o1 table counts marks inside kept t there none in
      let tk = takes s chunk slot o o1 o' table counts marks inside kept t there none X still m m' r at len at_is len_is copies in
      let mn = mine s chunk slot o o1 o' table counts marks inside kept t there none X still m m' r at len at_is len_is copies in
      let same = same_slots s X still o o' m m' chunk 2 slot 0 may free tk (λ _. mn) r c s.areas s.memory s.low refl in
      record {
        is = refl;
        there = still;
        master = copies.master;
        goes = c.goes s.areas.disk;
        slots = record { there = λ p. record { each = (same.there p).each }; placed = same.placed; own_first = first; owners = same.owners };
        over = keeps_over s X still o o' m m' chunk 2 slot 0 may free tk (λ _. mn) r c;
        seen = λ kn placed td. same_entries s X s.areas s.memory N L A o o' m m' chunk 2 slot may kn.step.each (free placed) r c td kn.shadow kn.over tk placed mn (record { each = λ c _. refl });
      }

  -- the blocks of the chunk
  blocks_here : (told : ℕ → Bool) → told chunk ≡ true → AddsUpTo (disk_at s o m) (slot_work s.own slot (seg_len chunk s.blocks)) (ahead_most s told chunk (chunk + 1 - chunk)) r (disk_at (record s { shadow = X }) o' m')
  blocks_here told listed =
      let c = cp s chunk slot o o1 o' table counts marks inside kept t there none X still m m' r at len at_is len_is copies in
      let state = zero_state (entry_of s chunk) none in
      up_to (disk_at s o m) (disk_at (record s { shadow = X }) o' m') (slot_work s.own slot (seg_len chunk s.blocks)) (ahead_most s told chunk (chunk + 1 - chunk)) r
      (λ d. (let e = ahead_one (λ k. slot_most (seg_len k s.blocks) d) told chunk listed in omega (arith, e, slot_less s.own slot (seg_len chunk s.blocks) d)))
      (subst (λ (k : ℕ). Adds (disk_at s o m) (copy_work s.own k slot (seg_len chunk s.blocks)) r (disk_at (record s { shadow = X }) o' m')) state (c.work s.areas.disk))

  -- the copy failed
  pub told_fails : (told : ℕ → Bool) → told chunk ≡ true → (e : E) → r ≡ Err e → CopiesTold {T = T} s o m told chunk (chunk + 1) (Err e) (record s { shadow = X }) o' m'
  told_fails told listed e is = record {
    keeps = subst (λ (z : Result T E). KeepsAhead s o m z (record s { shadow = X }) o' m') is (keeps_ahead s.next s.low s.ahead (λ u. u));
    kept = tt;
    copied = λ a b c. tt;
    work = record {
      done = tt;
      stopped = (subst (λ (z : Result T E). AddsUpTo (disk_at s o m) (slot_work s.own slot (seg_len chunk s.blocks)) (ahead_most s told chunk (chunk + 1 - chunk)) z (disk_at (record s { shadow = X }) o' m')) is (blocks_here told listed)).stopped;
    };
  }

  module _ (N : List ℕ) (L A : ℕ) (puts : PutsEntry s.next N chunk (entry_for 2 slot)) (small : slot < 2 ^ 30 - 1) (low_is : L ≡ min s.own (slot + 1)) (ahead_is : A ≡ s.ahead + cond (nat_lt slot s.own) 1 0) where
    slot_now : slot_by (entry_in N chunk) ≡ slot
    slot_now = ap slot_by puts.now ∙ (new_entry 2 slot (inl refl) small).slot_is

    ahead_own : slot < s.own → A ≡ s.ahead + 1
    ahead_own low = ahead_is ∙ ap (λ (b : Bool). s.ahead + cond b 1 0) (lt-ltb slot s.own low)

    ahead_over : s.own ≤ slot → A ≡ s.ahead + 0
    ahead_over past = ahead_is ∙ ap (λ (b : Bool). s.ahead + cond b 1 0) (le-ltb slot s.own past)

    past_table : s.own ≤ slot → length table ≤ slot
    past_table past = omega (arith, past, marks.long)

    first_now : UsesOwnFirst s → UsesOwnFirst (with_copy N L A)
    first_now u more = elim (cases_lt slot s.own) [
      | inl low ↦ absurd (let f = u more in let b = free_behind_low low in omega (arith, f, b, marks.in_table, marks.own_count, marks.long))
      | inr past ↦ (let f = u more in let a = ahead_over past in omega (arith, f, a))
    ]

    room_now : room_of (with_copy N L A) o' + 1 ≡ room_of s o
    room_now = elim (cases_lt slot s.own) [
      | inl low ↦
          let e : o'.owners ≡ o.owners = owners ∙ ap (λ (z : OverSet). z.owners) (t.own (omega (arith, low, marks.long))).1 in
          let u : used o' ≡ used o = ap (λ (l : Owners). used_in l) e in
          let k : slots o' ≡ slots o = ap length e in
          let a = ahead_own low in
          let b = free_behind_low low in
          omega (arith, u, k, a, b, marks.long)
      | inr past ↦
          let tk = t.over (past_table past) in
          let u : used o' ≡ used o + 1 = ap (λ (l : Owners). used_in l) owners ∙ tk.more in
          let k : slots o' ≡ slots o = ap length owners ∙ (takes_slot s chunk slot o o1 table counts marks inside kept t there none).long in
          let a = ahead_over past in
          let below = used_below o o1 s.set (slot - length table) tk in
          omega (arith, u, k, a, below)
    ]

    low_more : s.low ≤ L
    low_more = elim (cases_lt slot s.own) [
      | inl low ↦ (let l : slot < length table = omega (arith, low, marks.long) in let f = (t.least l).0 in omega (arith, low_is, f, low))
      | inr past ↦ omega (arith, low_is, past, inside, marks.long)
    ]

    is_kept : IsKeptFor s o chunk (with_copy N L A) o'
    is_kept = record {
      entry = puts.now ∙ ap (λ (k : ℕ). entry_for 2 k) (sym slot_now);
      own = λ lt.
          let low : slot < s.own = omega (arith, lt, slot_now) in
          let l : slot < length table = omega (arith, low, marks.long) in
          let f = (t.least l).0 in (omega (arith, f, slot_now), omega (arith, low_is, slot_now, low));
      over = λ behind.
          let past : s.own ≤ slot = omega (arith, behind, slot_now) in
          let k : slot_by (entry_in N chunk) - s.own ≡ slot - s.own = ap (λ (j : ℕ). j - s.own) slot_now in
          let j : slot - length table ≡ slot - s.own = omega (arith, marks.long) in (
            ap (λ (i : ℕ). owner_at o.owners i) (k ∙ sym j) ∙ (t.over (past_table past)).least.free,
            ap (λ (i : ℕ). owner_at o'.owners i) k ∙ mine s chunk slot o o1 o' table counts marks inside kept t there none X still m m' r at len at_is len_is copies past,
          );
      apart = λ placed c lt some is. (free_slot s chunk slot o o1 table counts marks inside kept t there none placed).each c lt (λ e. some (ap (λ (k : ℕ). entry_of s k) e ∙ none)) some (is ∙ slot_now);
    }

    entry_some : entry_in N chunk ≢ 0
    entry_some z = (new_entry 2 slot (inl refl) small).some (sym puts.now ∙ z)

    counts_one : (told : ℕ → Bool) → told chunk ≡ true → (test : ℕ → Bool) (b : Bool) → test (entry_in N chunk) ≡ b → kept_count test (with_copy N L A) told chunk (chunk + 1) ≡ cond b 1 0
    counts_one told listed test b is =
        count_one (λ c. told c && test (entry_in N c)) chunk
        ∙ ap (λ (t : Bool). cond (t && test (entry_in N chunk)) 1 0) listed
        ∙ ap (λ (t : Bool). cond t 1 0) is

    own_kept : (told : ℕ → Bool) → told chunk ≡ true → A ≡ s.ahead + kept_count (is_own s.own) (with_copy N L A) told chunk (chunk + 1)
    own_kept told listed = elim (cases_lt slot s.own) [
      | inl low ↦
          let one = counts_one told listed (is_own s.own) true (own_yes s.own (entry_in N chunk) entry_some (omega (arith, low, slot_now))) in
          omega (arith, ahead_own low, one)
      | inr past ↦
          let none = counts_one told listed (is_own s.own) false (own_no s.own (entry_in N chunk) (inr (omega (arith, past, slot_now)))) in
          omega (arith, ahead_over past, none)
    ]

    over_kept : (told : ℕ → Bool) → told chunk ≡ true → given_to s.set o'.owners ≡ given_to s.set o.owners + kept_count (is_over s.own) (with_copy N L A) told chunk (chunk + 1)
    over_kept told listed = elim (cases_lt slot s.own) [
      | inl low ↦
          let e : o'.owners ≡ o.owners = owners ∙ ap (λ (z : OverSet). z.owners) (t.own (omega (arith, low, marks.long))).1 in
          let same : given_to s.set o'.owners ≡ given_to s.set o.owners = ap (λ (l : Owners). given_to s.set l) e in
          let none = counts_one told listed (is_over s.own) false (over_no s.own (entry_in N chunk) (inr (omega (arith, low, slot_now)))) in
          omega (arith, same, none)
      | inr past ↦
          let more : given_to s.set o'.owners ≡ given_to s.set o.owners + 1 = ap (λ (l : Owners). given_to s.set l) owners ∙ given_more o o1 s.set (slot - length table) (t.over (past_table past)) in
          let one = counts_one told listed (is_over s.own) true (over_yes s.own (entry_in N chunk) entry_some (omega (arith, past, slot_now))) in
          omega (arith, more, one)
    ]

    full_now : (told : ℕ → Bool) → told chunk ≡ true → AreOwnFull s ⊎ (0 < kept_count (is_over s.own) (with_copy N L A) told chunk (chunk + 1)) → AreOwnFull (with_copy N L A)
    full_now told listed before = elim (cases_lt slot s.own) [
      | inl low ↦
          let none = counts_one told listed (is_over s.own) false (over_no s.own (entry_in N chunk) (inr (omega (arith, low, slot_now)))) in
          let some = free_behind_low low in
          let no : ⊥ = elim before [ inl full ↦ omega (arith, full, some, marks.in_table, marks.own_count, marks.long) | inr more ↦ omega (arith, more, none) ] in
          absurd no
      | inr past ↦
          let full = used_or_kept table s.low s.ahead inside kept (t.full (past_table past)) in
          let a = ahead_over past in
          omega (arith, full, a, marks.in_table, marks.own_count, marks.long)
    ]

    pub told_copies : (told : ℕ → Bool) → told chunk ≡ true → CopiesTold s o m told chunk (chunk + 1) r (with_copy N L A) o' m'
    told_copies told listed = record {
      keeps = keeps_ahead N L A first_now;
      kept = ok_exit r (record {
        kept = λ c low high is. subst (λ (k : ℕ). IsKeptFor s o k (with_copy N L A) o') (let e : chunk ≡ c = omega (arith, low, high) in e) is_kept;
        others = λ c out. puts.others c (elsewhere c out);
        apart = λ c d low lt high is is'. absurd (omega (arith, low, lt, high));
        room = (let one = count_one told chunk ∙ ap (λ (b : Bool). cond b 1 0) listed in omega (arith, one, room_now));
        low = low_more;
        own = own_kept told listed;
        over = over_kept told listed;
        own_first = full_now told listed;
      });
      copied = λ tm ts to.
          let c = cp s chunk slot o o1 o' table counts marks inside kept t there none X still m m' r at len at_is len_is copies in
          on_ok_weaker r (λ stands. record {
            each = λ i lt low high is.
                let here : i / 64 ≡ chunk = omega (arith, low, high) in
                ap (λ (k : ℕ). in_slot s.own (disk_of X).image o'.disk.image (slot_by (entry_in N k)) (i % 64)) here
                ∙ ap (λ (k : ℕ). in_slot s.own (disk_of X).image o'.disk.image k (i % 64)) slot_now
                ∙ stands (i % 64) (place_in chunk s.blocks i here lt)
                ∙ ap (λ (k : ℕ). block_at m.image k) (place_is chunk i here);
            others = λ k i b other. (c.others ts to).each k i b (λ e. other chunk (omega arith) (omega arith) listed (slot_now ∙ sym e));
          }) (c.to_slot tm ts to (zero_state (entry_of s chunk) none));
      work = up_to_as (disk_at s o m) (disk_at (with_copy N L A) o' m') (slot_work s.own slot (seg_len chunk s.blocks)) (ahead_work s (with_copy N L A) told chunk (chunk + 1 - chunk)) (ahead_most s told chunk (chunk + 1 - chunk)) (ahead_most s told chunk (chunk + 1 - chunk)) r
          (ok_exit r (λ d. sym (ahead_one (λ k. slot_work s.own (slot_by (entry_in N k)) (seg_len k s.blocks) d) told chunk listed ∙ ap (λ (k : ℕ). slot_work s.own k (seg_len chunk s.blocks) d) slot_now)))
          (err_exit r (λ d. omega arith)) (record { done = (blocks_here told listed).done; stopped = (blocks_here told listed).stopped });
    }
      where
        elsewhere : (c : ℕ) → (c < chunk) ⊎ ((chunk + 1 ≤ c) ⊎ (told c ≡ false)) → c ≢ chunk
        elsewhere c (inl low) e = omega (arith, low, e)
        elsewhere c (inr (inl high)) e = omega (arith, high, e)
        elsewhere c (inr (inr not_told)) e = false≢true (sym not_told ∙ ap told e ∙ listed)

-- nothing is done
pub keeps_none : {T E : Type 0} (s : CompactSet) (o : OverSet) (m : Seen) (x : T) → KeepsAhead {E = E} s o m (Ok x) s o m
keeps_none s o m x = record {
  is = refl;
  there = refl;
  master = refl;
  goes = all_same (disk_at s o m) x;
  slots = slots_nothing s o;
  over = λ p told. record { label = refl; slots = λ k i lt ne. refl };
  seen = λ kn p td. blocks_nothing s o m kn p;
}

-- a chunk that is not told
pub told_not : {T E : Type 0} (s : CompactSet) (o : OverSet) (m : Seen) (told : ℕ → Bool) (c : ℕ) (x : T) → told c ≡ false → CopiesTold {E = E} s o m told c (c + 1) (Ok x) s o m
told_not s o m told c x no_told = record {
  keeps = keeps_none s o m x;
  kept = record {
    kept = λ k low high is. absurd (false≢true (sym (here k low high) ∙ is));
    others = λ k out. refl;
    apart = λ k d low lt high is is'. absurd (omega (arith, low, lt, high));
    room = (let none = count_one told c ∙ ap (λ (b : Bool). cond b 1 0) no_told in omega (arith, none));
    low = omega arith;
    own = (let none = nothing (is_own s.own) in omega (arith, none));
    over = (let none = nothing (is_over s.own) in omega (arith, none));
    own_first = λ before. elim before [ inl full ↦ full | inr more ↦ absurd (let none = nothing (is_over s.own) in omega (arith, more, none)) ];
  };
  copied = λ a b d. record {
    each = λ i lt low high is. absurd (false≢true (sym (here (i / 64) low high) ∙ is));
    others = λ k i b other. refl;
  };
  work = up_to_none (disk_at s o m) (ahead_work s s told c (c + 1 - c)) (ahead_most s told c (c + 1 - c)) x (λ d. ahead_not (λ k. slot_work s.own (slot_by (next_of s k)) (seg_len k s.blocks) d) told c no_told);
}
  where
    here : (k : ℕ) → c ≤ k → k < c + 1 → told k ≡ false
    here k low high = (let e : k ≡ c = omega (arith, low, high) in ap told e ∙ no_told)

    nothing : (test : ℕ → Bool) → kept_count test s told c (c + 1) ≡ 0
    nothing test = count_one (λ k. told k && test (next_of s k)) c ∙ ap (λ (b : Bool). cond (b && test (next_of s c)) 1 0) no_told
