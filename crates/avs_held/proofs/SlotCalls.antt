-- Chunks of a compact set are settled, saved and copied.
use Rattle.std.proofs.Common.{◌≡◌, ◌≢◌, ◌⊎◌, inl, inr, ℕ, zero, suc, ◌+◌, ◌<◌, ◌≤◌, Bool, true, false, cond, eqb, ◌||◌, Option, None, Some, ◌∷◌, length, filter, Result, OnOk, IfErr, ◌∙◌, sym, refl, ap, subst, arith}
use Rattle.std.specs.List.{range_with_len}
use Rattle.std.proofs.lemmas.Bool.{cases_lt, eq-eqb, ne_eqb}
use Rattle.std.proofs.lemmas.Result.{on_ok_weaker, on_err_weaker}
use Rattle.avs_seg.specs.Segment.{seg_count}
use Rattle.avs_dev.specs.Seen.{Seen, IsTold, shown}
use Rattle.avs_over.specs.Over.{OverSet}
use Rattle.avs_chunks.specs.Copying as chunked
use Rattle.avs_chunks.specs.Due.{is_due}
use Rattle.avs_entries.specs.Entries.{state_by}
use Rattle.avs_compact.specs.declared.fault.CompactFault.{CompactFault}
use Rattle.avs_compact.specs.declared.fault.CompactFault.TheVariants as fault
use Rattle.avs_compact.specs.CompactSet as compact
use Rattle.avs_compact.specs.CompactSet.{CompactSet, entry_of, disk_entry}
use Rattle.avs_compact.specs.Disks.{Shadow}
use Rattle.avs_compact.specs.Calls as calls
use Rattle.avs_compact.specs.Places as places
use Rattle.avs_compact.specs.Places.{ArePlaced}
use Rattle.avs_compact.specs.Keeping as keeping
use Rattle.avs_compact.specs.Saving as saving
use Rattle.avs_compact.specs.Copying as copying
use Rattle.avs_sets.specs.Says.{BlockSays}
use Rattle.avs_sets.specs.Sets.{chunks_of, KeepsMaster, KeepsShadow}
use Rattle.avs_sets.specs.Meaning.{chunks_by}
use Rattle.avs_sets.specs.Steps.{read_over, IsKnown, SetsOne, StatesSame, Splits}
use Rattle.avs_sets.specs.Owners.{OwnsPlaces}
use Rattle.avs_held.specs.declared.held.Seat.{Seat}
use Rattle.avs_held.specs.Held.{compact_set, IsSeated}
use Rattle.avs_held.specs.Rooms.{on_disks, owners_of, lacking}
use Rattle.avs_held.specs.Calls.{MaySettle, SettlesSet, CopiesDue, CopiesOne, SavesChunks, SavesSet}
use Rattle.avs_held.proofs.Told.{state_formed, same_zero, in_map, past_map}
use Rattle.avs_held.proofs.Slotted.{AreFormed, memory_map, plain_read, plain_master, plain_shadow}
use Rattle.avs_held.proofs.SlotSteps as steps
use Rattle.avs_held.proofs.SlotSteps.{IsSameSlots, same_slots, seated_kept, placed_now, formed_disk, held_kept, on_reads, state_now, state_same, same_states, known, placed}

never : false ≡ true → ⊥
never e = cc

-- ---- the memory

-- the state of a chunk in memory that keeps its form
pub memory_state : (s : CompactSet) → AreFormed (entry_of s) (compact.chunks_of s) → (c : ℕ) → c < compact.chunks_of s → (memory_map s).state c ≡ state_by (entry_of s c)
memory_state s form c lt = in_map s.own (compact.chunks_of s) (entry_of s) c lt ∙ state_formed (entry_of s c) (form c lt)

-- of so many numbers from one on the same pass two tests
pub filter_same : (p q : ℕ → Bool) (first n : ℕ) → ((c : ℕ) → first ≤ c → c < first + n → p c ≡ q c) → length (filter p (range_with_len first n)) ≡ length (filter q (range_with_len first n))
filter_same p q first zero same = refl
filter_same p q first (suc n) same =
    go (p first) (q first) (same first (omega arith) (omega arith)) (filter_same p q (first + 1) n (λ c low high. same c (omega (arith, low)) (omega (arith, high))))
  where
    go : (a b : Bool) → a ≡ b → length (filter p (range_with_len (first + 1) n)) ≡ length (filter q (range_with_len (first + 1) n))
        → length (cond a (first ∷ filter p (range_with_len (first + 1) n)) (filter p (range_with_len (first + 1) n)))
        ≡ length (cond b (first ∷ filter q (range_with_len (first + 1) n)) (filter q (range_with_len (first + 1) n)))
    go true true is rest = ap (λ (k : ℕ). suc k) rest
    go false false is rest = rest
    go true false is rest = absurd (never (sym is))
    go false true is rest = absurd (never is)

pub lacking_is : (seat : Seat) (s : CompactSet) (first count : ℕ) → first + count ≤ compact.chunks_of s → lacking (compact_set seat s) first count ≡ saving.lacking s first count
lacking_is seat s first count inside = filter_same (λ c. eqb ((memory_map s).state c) 0) (λ c. eqb (entry_of s c) 0) first count
    (λ c low high. ap (λ (k : ℕ). eqb k 0) (in_map s.own (compact.chunks_of s) (entry_of s) c (omega (arith, high, inside))) ∙ same_zero (entry_of s c))

-- ---- a step by a call that keeps the set

module _ (seat : Seat) (s s' : CompactSet) (m m' : Seen) (o o' : OverSet) {T E : Type 0} (r : Result T E) (fit : IsSeated seat s)
    (form : AreFormed (entry_of s) (compact.chunks_of s)) (k : keeping.KeepsSet s o m r s' o' m') where
  shape : IsSameSlots s s'
  shape = same_slots s s' k.shape

  placed_then : calls.IsKnown s o → keeping.IsPlaced s o → IsTold m → ArePlaced (disk_entry s') s'.own (compact.chunks_of s') s'.set o'.owners
  placed_then kn p told = placed_now s s' shape (disk_entry s') o'.owners (k.blocks kn p told).placed

  master_then : calls.IsKnown s o → keeping.IsPlaced s o → IsTold m → KeepsMaster (plain_read s o) m.image (plain_read s' o') m'.image
  master_then kn p told = plain_master s s' o o' m.image m'.image shape.blocks (formed_disk s o form kn) (placed_then kn p told).form (k.blocks kn p told)

  shadow_then : calls.IsKnown s o → keeping.IsPlaced s o → IsTold m → KeepsShadow (plain_read s o) m.image (plain_read s' o') m'.image
  shadow_then kn p told = plain_shadow s s' o o' m.image m'.image shape.blocks (formed_disk s o form kn) (placed_then kn p told).form (k.blocks kn p told)

  module _ (says : BlockSays) (owned : OwnsPlaces (owners_of o) (compact_set seat s)) (kn : IsKnown says (compact_set seat s) m o.disk) where
    known_is : calls.IsKnown s o
    known_is = known seat s s' m m' o o' r shape k.goes fit form k.over says owned kn

    placed_is : keeping.IsPlaced s o
    placed_is = placed seat s s' m m' o o' r shape k.goes fit form k.over says owned kn

    entries_now : ArePlaced (disk_entry s') s'.own (compact.chunks_of s') s'.set o'.owners
    entries_now = placed_then known_is placed_is kn.master

    shadow_now : KeepsShadow (read_over says (compact_set seat s) o.disk) (shown m) (read_over says (compact_set seat s') o'.disk) (shown m')
    shadow_now = on_reads seat s s' m m' o o' r shape k.goes fit form k.over says owned kn KeepsShadow (shadow_then known_is placed_is kn.master)

    one_now : (chunk target : ℕ) → chunk < compact.chunks_of s → places.SetsEntry (disk_entry s) (disk_entry s') (compact.chunks_of s) chunk target
        → SetsOne (chunks_by says (compact_set seat s)).state (chunks_by says (compact_set seat s')).state (chunks_of (compact_set seat s)) chunk target
    one_now chunk target there one = record {
      now = state_now seat s s' m m' o o' r shape k.goes fit form k.over says owned kn entries_now chunk there ∙ one.now;
      others = λ c lt ne. state_same seat s s' m m' o o' r shape k.goes fit form k.over says owned kn c lt (one.others c lt ne);
    }

    none_now : places.AreSame (disk_entry s) (disk_entry s') (compact.chunks_of s)
        → StatesSame (chunks_by says (compact_set seat s)).state (chunks_by says (compact_set seat s')).state (chunks_of (compact_set seat s))
    none_now same = same_states seat s s' m m' o o' r shape k.goes fit form k.over says owned kn same.each

    splits_now : (first end : ℕ) → places.Splits (disk_entry s) (disk_entry s') (compact.chunks_of s) first end
        → Splits (chunks_by says (compact_set seat s)).state (chunks_by says (compact_set seat s')).state (chunks_of (compact_set seat s)) first end
    splits_now first end x = record {
      inside = λ c lt low high. state_now seat s s' m m' o o' r shape k.goes fit form k.over says owned kn entries_now c lt ∙ x.inside c lt low high;
      outside = λ c lt out. state_same seat s s' m m' o o' r shape k.goes fit form k.over says owned kn c lt (x.outside c lt out);
    }

  module _ (form' : AreFormed (entry_of s') (compact.chunks_of s')) where
    chunk_now : (c : ℕ) → c < compact.chunks_of s → c < compact.chunks_of s'
    chunk_now c lt = subst (λ (n : ℕ). c < seg_count n) (sym shape.blocks) lt

    memory_now : (c : ℕ) → c < compact.chunks_of s → (memory_map s').state c ≡ state_by (entry_of s' c)
    memory_now c lt = memory_state s' form' c (chunk_now c lt)

    memory_same : (c : ℕ) → c < compact.chunks_of s → entry_of s' c ≡ entry_of s c → (memory_map s').state c ≡ (memory_map s).state c
    memory_same c lt is = memory_now c lt ∙ ap state_by is ∙ sym (memory_state s form c lt)

    memory_past : (c : ℕ) → compact.chunks_of s ≤ c → (memory_map s').state c ≡ (memory_map s).state c
    memory_past c le = past_map s'.own (compact.chunks_of s') (entry_of s') c (subst (λ (n : ℕ). seg_count n ≤ c) (sym shape.blocks) le) ∙ sym (past_map s.own (compact.chunks_of s) (entry_of s) c le)

    -- a chunk is settled
    pub settles_slot : (chunk target : ℕ) → chunk < compact.chunks_of s → keeping.Settles s o m chunk target r s' o' m'
        → SettlesSet (on_disks (compact_set seat s) m o) chunk target r (on_disks (compact_set seat s') m' o')
    settles_slot chunk target there a = record {
      step = λ owned says. record {
        keeps = steps.keeps seat s s' m m' o o' r shape k.goes fit form k.over a.known placed_then master_then says owned;
        shadow = λ kn. shadow_now says owned kn;
        done = λ kn. on_ok_weaker r (λ one. one_now says owned kn chunk target there one) (a.done (known_is says owned kn));
        stopped = λ kn. on_err_weaker r (λ which. elim which [
          | inl same ↦ inl (none_now says owned kn same)
          | inr one ↦ inr (one_now says owned kn chunk target there one)
        ]) (a.stopped (known_is says owned kn));
      };
      keeps = held_kept seat s s' m m' o o' r form k;
      memory = on_ok_weaker r (λ one. record {
        now = memory_now chunk there ∙ one.now;
        others = λ c ne. elim (cases_lt c (compact.chunks_of s)) [
          | inl lt ↦ memory_same c lt (one.others c lt ne)
          | inr le ↦ memory_past c le
        ];
      }) a.memory;
      adds = λ is. absurd (never (sym is));
    }

    -- chunks are saved
    pub saves_slots : (first count : ℕ) → saving.SavesAll s o m first count r s' o' m' → SavesChunks (on_disks (compact_set seat s) m o) first (first + count) r (on_disks (compact_set seat s') m' o')
    saves_slots first count a = record {
      step = λ owned says. record {
        keeps = steps.keeps seat s s' m m' o o' r shape k.goes fit form k.over a.known placed_then master_then says owned;
        shadow = λ kn. shadow_now says owned kn;
        done = λ kn. on_ok_weaker r (λ x. splits_now says owned kn first (first + count) x) (a.done (known_is says owned kn));
        stopped = λ kn. on_err_weaker r (λ x. record { upto = x.upto; low = x.low; high = x.high; splits = splits_now says owned kn first x.upto x.splits }) (a.stopped (known_is says owned kn));
      };
      keeps = held_kept seat s s' m m' o o' r form k;
      memory = on_ok_weaker r (λ x. record {
        inside = λ c lt low high. memory_now c lt ∙ x.inside c lt low high;
        outside = λ c lt out. memory_same c lt (x.outside c lt out);
      }) a.memory;
    }

    -- and one chunk
    pub saves_slot : (chunk : ℕ) → chunk < compact.chunks_of s → saving.SavesAll s o m chunk 1 r s' o' m' → SettlesSet (on_disks (compact_set seat s) m o) chunk 2 r (on_disks (compact_set seat s') m' o')
    saves_slot chunk there a = record {
      step = λ owned says. record {
        keeps = steps.keeps seat s s' m m' o o' r shape k.goes fit form k.over a.known placed_then master_then says owned;
        shadow = λ kn. shadow_now says owned kn;
        done = λ kn. on_ok_weaker r (λ x. one_of says owned kn (splits_now says owned kn chunk (chunk + 1) x)) (a.done (known_is says owned kn));
        stopped = λ kn. on_err_weaker r (λ x. some_of says owned kn x) (a.stopped (known_is says owned kn));
      };
      keeps = held_kept seat s s' m m' o o' r form k;
      memory = on_ok_weaker r (λ x. record {
        now = memory_now chunk there ∙ x.inside chunk there (omega arith) (omega arith);
        others = λ c ne. elim (cases_lt c (compact.chunks_of s)) [
          | inl lt ↦ memory_same c lt (x.outside c lt (beside c ne))
          | inr le ↦ memory_past c le
        ];
      }) a.memory;
      adds = λ is. absurd (never (sym is));
    }
      where
        beside : (c : ℕ) → c ≢ chunk → (c < chunk) ⊎ (chunk + 1 ≤ c)
        beside c ne = elim (cases_lt c chunk) [ inl lt ↦ inl lt | inr le ↦ inr (omega (arith, le, ne)) ]

        one_of : (says : BlockSays) (owned : OwnsPlaces (owners_of o) (compact_set seat s)) (kn : IsKnown says (compact_set seat s) m o.disk)
            → Splits (chunks_by says (compact_set seat s)).state (chunks_by says (compact_set seat s')).state (chunks_of (compact_set seat s)) chunk (chunk + 1)
            → SetsOne (chunks_by says (compact_set seat s)).state (chunks_by says (compact_set seat s')).state (chunks_of (compact_set seat s)) chunk 2
        one_of says owned kn x = record { now = x.inside chunk there (omega arith) (omega arith); others = λ c lt ne. x.outside c lt (beside c ne) }

        none_of : (says : BlockSays) (owned : OwnsPlaces (owners_of o) (compact_set seat s)) (kn : IsKnown says (compact_set seat s) m o.disk) (upto : ℕ) → upto ≤ chunk
            → Splits (chunks_by says (compact_set seat s)).state (chunks_by says (compact_set seat s')).state (chunks_of (compact_set seat s)) chunk upto
            → StatesSame (chunks_by says (compact_set seat s)).state (chunks_by says (compact_set seat s')).state (chunks_of (compact_set seat s))
        none_of says owned kn upto le x = record { each = λ c lt. x.outside c lt (side c) }
          where
            side : (c : ℕ) → (c < chunk) ⊎ (upto ≤ c)
            side c = elim (cases_lt c chunk) [ inl low ↦ inl low | inr from ↦ inr (omega (arith, from, le)) ]

        some_of : (says : BlockSays) (owned : OwnsPlaces (owners_of o) (compact_set seat s)) (kn : IsKnown says (compact_set seat s) m o.disk)
            → places.SplitsFirst (disk_entry s) (disk_entry s') (compact.chunks_of s) chunk (chunk + 1)
            → StatesSame (chunks_by says (compact_set seat s)).state (chunks_by says (compact_set seat s')).state (chunks_of (compact_set seat s))
            ⊎ SetsOne (chunks_by says (compact_set seat s)).state (chunks_by says (compact_set seat s')).state (chunks_of (compact_set seat s)) chunk 2
        some_of says owned kn x = elim (cases_lt chunk x.upto) [
          | inl some ↦ let all : x.upto ≡ chunk + 1 = omega (arith, x.high, some) in
              inr (one_of says owned kn (splits_now says owned kn chunk (chunk + 1) (subst (λ (n : ℕ). places.Splits (disk_entry s) (disk_entry s') (compact.chunks_of s) chunk n) all x.splits)))
          | inr none ↦ inl (none_of says owned kn x.upto none (splits_now says owned kn chunk x.upto x.splits))
        ]

-- ---- what a call asks

pub may_slot : (seat : Seat) (s : CompactSet) → AreFormed (entry_of s) (compact.chunks_of s) → (chunk target : ℕ) → target ≢ 2 → MaySettle (compact_set seat s) chunk target → state_by (entry_of s chunk) ≡ 3
may_slot seat s form chunk target ne may = sym (memory_state s form chunk may.there) ∙ may.left (both may.targets) (λ e. never e)
  where
    both : (target ≡ 2) ⊎ (target ≡ 1) → target ≡ 1
    both (inl two) = absurd (ne two)
    both (inr one) = one

-- ---- refused where there is no room

pub saves_set : {T : Type 0} (seat : Seat) (s s' : CompactSet) (m m' : Seen) (o o' : OverSet) (first count : ℕ) (r : Result T CompactFault) → IsSeated seat s → AreFormed (entry_of s) (compact.chunks_of s)
    → AreFormed (entry_of s') (compact.chunks_of s') → first + count ≤ compact.chunks_of s → saving.SavesRange s o m first count r s' o' m'
    → SavesSet seat s (on_disks (compact_set seat s) m o) first count r (on_disks (compact_set seat s') m' o')
saves_set seat s s' m m' o o' first count r fit form form' inside a = record {
  refuses = λ none. let g = a.refuses (subst (λ (n : ℕ). compact.room_of s o < compact.need_of s + n) same none) in record {
    told = subst (λ (n : ℕ). IfErr r (λ e. e ≡ fault.Offline (compact.need_of s + n) (compact.room_of s o))) (sym same) g.told;
    refused = g.refused;
    same = λ p. on_disks (compact_set seat (g.nothing.set p)) (g.nothing.master p) (g.nothing.over p);
  };
  saves = λ room. let x = a.saves (room_then room) in saves_slots seat s s' m m' o o' r fit form x.keeps form' first count x;
  cause = λ room. a.cause (room_then room);
}
  where
    same : lacking (compact_set seat s) first count ≡ saving.lacking s first count
    same = lacking_is seat s first count inside

    room_then : compact.need_of s + lacking (compact_set seat s) first count ≤ compact.room_of s o → saving.need_with s first count ≤ compact.room_of s o
    room_then room = subst (λ (n : ℕ). compact.need_of s + n ≤ compact.room_of s o) same room

-- ---- a copy step

due_is : (state : ℕ) → state ≡ 3 → is_due false state ≡ true
due_is state is = ap (λ (b : Bool). b || false) (eq-eqb state 3 is)

not_due : (state : ℕ) → state ≢ 3 → is_due false state ≡ false
not_due state ne = ap (λ (b : Bool). b || false) (ne_eqb state 3 ne)

finds : (s : CompactSet) → AreFormed (entry_of s) (compact.chunks_of s) → (due : Option ℕ) → copying.FindsDue (entry_of s) (compact.chunks_of s) due
    → chunked.FindsDue (memory_map s).state false (compact.chunks_of s) due
finds s form None f = record { there = tt; due = tt; least = tt; none = λ d lt. not_due ((memory_map s).state d) (λ is. f.none d lt (sym (memory_state s form d lt) ∙ is)) }
finds s form (Some c) f = record {
  there = f.there;
  due = due_is ((memory_map s).state c) (memory_state s form c f.there ∙ f.due);
  least = λ d lt. let below : d < compact.chunks_of s = omega (arith, lt, f.there) in not_due ((memory_map s).state d) (λ is. f.least d lt (sym (memory_state s form d below) ∙ is));
  none = tt;
}

module _ (seat : Seat) (s s' : CompactSet) (m m' : Seen) (o o' : OverSet) {E : Type 0} (r : Result (Option ℕ) E) (fit : IsSeated seat s)
    (form : AreFormed (entry_of s) (compact.chunks_of s)) (form' : AreFormed (entry_of s') (compact.chunks_of s')) where
  copies_due : (due : Option ℕ) → copying.FindsDue (entry_of s) (compact.chunks_of s) due → copying.CopiesDue s o m due r s' o' m' → CopiesDue (on_disks (compact_set seat s) m o) due r (on_disks (compact_set seat s') m' o')
  copies_due None f (nothing, (ok, is)) = (record { ok = ok; same = λ p. on_disks (compact_set seat (nothing.set p)) (nothing.master p) (nothing.over p) }, is)
  copies_due (Some chunk) f (st, is) = (settles_slot seat s s' m m' o o' r fit form st.keeps form' chunk 1 f.there st, is)

  pub copies_one : copying.CopiesOne s o m r s' o' m' → CopiesOne (on_disks (compact_set seat s) m o) r (on_disks (compact_set seat s') m' o')
  copies_one a = record { due = a.due; finds = finds s form a.due a.finds; copies = copies_due a.due a.finds a.copies }

-- a call that brings back a chunk that stands in its slot alone
pub brings_back : {T E : Type 0} (seat : Seat) (s s' : CompactSet) (m m' : Seen) (o o' : OverSet) (r : Result T E) (chunk : ℕ) → IsSeated seat s → AreFormed (entry_of s) (compact.chunks_of s)
    → AreFormed (entry_of s') (compact.chunks_of s') → chunk < compact.chunks_of s → state_by (entry_of s chunk) ≡ 3 → copying.BringsBack s o m chunk r s' o' m'
    → SettlesSet (on_disks (compact_set seat s) m o) chunk 1 r (on_disks (compact_set seat s') m' o')
brings_back seat s s' m m' o o' r chunk fit form form' there is a = let st = a.settles is in settles_slot seat s s' m m' o o' r fit form st.keeps form' chunk 1 there st

-- ---- the set stays in its seat

kept_seat : {T E : Type 0} (seat : Seat) (s s' : CompactSet) (m m' : Seen) (o o' : OverSet) (r : Result T E) → IsSeated seat s → keeping.KeepsSet s o m r s' o' m' → IsSeated seat s'
kept_seat seat s s' m m' o o' r fit k = seated_kept seat s s' (same_slots s s' k.shape) (k.goes.lasts Shadow).size fit

pub saved_seat : {T : Type 0} (seat : Seat) (s s' : CompactSet) (m m' : Seen) (o o' : OverSet) (first count : ℕ) (r : Result T CompactFault) → IsSeated seat s → saving.SavesRange s o m first count r s' o' m' → IsSeated seat s'
saved_seat seat s s' m m' o o' first count r fit a = elim (cases_lt (compact.room_of s o) (saving.need_with s first count)) [
  | inl none ↦ subst (λ (x : CompactSet). IsSeated seat x) (sym (a.refuses none).nothing.set) fit
  | inr room ↦ kept_seat seat s s' m m' o o' r fit (a.saves room).keeps
]

pub copied_seat : {E : Type 0} (seat : Seat) (s s' : CompactSet) (m m' : Seen) (o o' : OverSet) (due : Option ℕ) (r : Result (Option ℕ) E) → IsSeated seat s → copying.CopiesDue s o m due r s' o' m' → IsSeated seat s'
copied_seat seat s s' m m' o o' None r fit (nothing, is) = subst (λ (x : CompactSet). IsSeated seat x) (sym nothing.set) fit
copied_seat seat s s' m m' o o' (Some chunk) r fit (st, is) = kept_seat seat s s' m m' o o' r fit st.keeps

-- at Ok so many slots more are needed, and the room stays
pub saved_counts : {T : Type 0} (seat : Seat) (s s' : CompactSet) (m m' : Seen) (o o' : OverSet) (first count : ℕ) (r : Result T CompactFault) → first + count ≤ compact.chunks_of s
    → saving.SavesRange s o m first count r s' o' m' → OnOk r (keeping.CountsSlots s o (lacking (compact_set seat s) first count) s' o')
saved_counts seat s s' m m' o o' first count r inside a = elim (cases_lt (compact.room_of s o) (saving.need_with s first count)) [
  | inl none ↦ on_ok_weaker r (λ no. absurd no) (a.refuses none).refused
  | inr room ↦ on_ok_weaker r (λ x. subst (λ (n : ℕ). keeping.CountsSlots s o n s' o') (sym (lacking_is seat s first count inside)) x) (a.saves room).counts
]
