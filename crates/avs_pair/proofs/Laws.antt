-- The promises follow from what holds between any two moves.
use Rattle.std.proofs.Common.{◌≡◌, ◌⊎◌, inl, inr, ℕ, ◌+◌, ◌*◌, ◌/◌, ◌<◌, ◌≤◌, true, false, List, ◌∙◌, sym, ap, subst, arith}
use Rattle.std.proofs.lemmas.Bool.{cases_Bool, cases_lt}
use Rattle.avs_seg.specs.Segment.{differ}
use Rattle.avs_seg.proofs.Blocks.{same_images}
use Rattle.avs_seg.proofs.Cuts.{same_segment}
use Rattle.avs_seg.proofs.Differ.{differ_differs}
use Rattle.std.specs.List.{Contains}
use Rattle.avs_model.specs.declared.entry.Entry.{Entry}
use Rattle.avs_mirrors.specs.Allowed.{Allowed}
use Rattle.avs_mirrors.specs.Due.{has}
use Rattle.avs_mirrors.specs.Entries.{Images, SameSize, after_entries, after_entry, between, block_in}
use Rattle.avs_mirrors.specs.Half.{HalfState}
use Rattle.avs_mirrors.specs.Moves.{PlaceMark, after}
use Rattle.avs_mirrors.specs.Pair.{PairState, Session, on_both}
use Rattle.avs_pair.specs.Cover.{Covers, IsTight, NoneWaits, SharesBlocks}
use Rattle.avs_pair.specs.Messages.{HasFaithful}
use Rattle.avs_pair.specs.Prefix.{IsAcknowledged, IsEqualAtMark, IsPrefix}
use Rattle.avs_pair.specs.Session.{InSession, IsSettled}
use Rattle.avs_pair.proofs.Sound.{Keeps, Sound}
use Rattle.avs_pair.proofs.Images.{size_after, size_after_all, size_sym, size_then}
use Rattle.avs_pair.proofs.Orders.{between_none}

in_segment : (i seg : ℕ) → 64 * seg ≤ i → i < 64 * seg + 64 → i / 64 ≡ seg
in_segment i seg low high = omega arith

pub sound_covers : (p : PairState) → Sound p → Covers p
sound_covers p h = record { each = λ set seg here found. one set seg here found (cases_Bool (has p.source.due set seg)) (cases_Bool (has p.target.due set seg)) }
  where
    one : (set seg : ℕ) → on_both p.source p.target set ≡ true → Contains (differ (p.source.images set) (p.target.images set)) seg
        → (has p.source.due set seg ≡ true) ⊎ (has p.source.due set seg ≡ false) → (has p.target.due set seg ≡ true) ⊎ (has p.target.due set seg ≡ false) → (has p.source.due set seg ≡ true) ⊎ (has p.target.due set seg ≡ true)
    one set seg here found (inl on) also = inl on
    one set seg here found (inr none) (inl on) = inr on
    one set seg here found (inr none) (inr gone) = absurd (differ_differs (p.source.images set) (p.target.images set) seg found
        (same_segment (p.source.images set) (p.target.images set) seg (sym (h.sizes set here).len) (λ i low high.
        let at : seg ≡ i / 64 = sym (in_segment i seg low high) in
        sym (h.covered.each set i here (subst (λ (n : ℕ). has p.source.due set n ≡ false) at none) (subst (λ (n : ℕ). has p.target.due set n ≡ false) at gone)))))

pub sound_shares : (p : PairState) → Sound p → SharesBlocks p
sound_shares p h = record {
  size = λ set here. size_sym _ _ set (h.sizes set here);
  each = λ set i here none gone. sym (h.covered.each set i here none gone);
}

pub sound_faithful : (p : PairState) → Sound p → HasFaithful p
sound_faithful p h = record { messages = h.messages; held = h.held }

pub sound_tight : (p : PairState) → Sound p → IsTight p
sound_tight p h = record {
  each = λ s set seg place is some. (h.stands s).freed.each set seg place is some;
  applied = λ s same j e set seg here le is none. (h.sends s same).pending.each j e set seg here le is none;
  source_away = h.source_away;
  target_away = h.target_away;
}

pub none_waits : (p : PairState) → Allowed p PlaceMark → NoneWaits (after p PlaceMark)
none_waits p can = record { each = can.none }

pub sound_in_session : (p : PairState) → Sound p → InSession p
sound_in_session p h = record {
  roles = record { source = h.no_source; target = h.no_target };
  sends = λ a. let o = h.stands a in record {
    number = (o.number, o.some);
    places = (o.counted, omega (arith, o.counted, o.reached), omega (arith, o.counted, o.taken));
    sets = λ t. (o.on t, o.here t);
    contents = o.contents;
    synced = o.synced;
    entries = o.fits;
  };
  receives = λ r. let o = h.receives r in record {
    number = (o.number, o.some);
    applied = h.applied o.number;
    sets = λ t. (o.on t, o.here t);
    synced = o.reached;
    contents = λ t there. o.contents t there ∙ o.reached;
    kept = o.kept;
    entries = o.fits;
  };
}

-- images that are the same block by block
all_blocks : (a b : Images) (set : ℕ) → SameSize a b set → ((i : ℕ) → block_in a set i ≡ block_in b set i) → a set ≡ b set
all_blocks a b set size same = same_images (a set) (b set) size.len (λ i lt. same i)

pub sound_settled : (p : PairState) → Sound p → IsSettled p
sound_settled p h = record {
  applied = λ r j e is there set. let o = h.receives r in all_blocks (after_entry p.target.images e) p.target.images set (size_after p.target.images e set) (λ i. o.once.each j e is there set i);
  given = λ a j e is there set. let o = h.stands a in all_blocks (after_entry p.source.images e) p.source.images set (size_after p.source.images e set) (λ i. o.once.each j e (is ∙ o.counted) there set i);
}

pub sound_prefix : (p : PairState) → Sound p → IsPrefix p
sound_prefix p h = record {
  each = λ set kept number some reached.
      let k : Keeps p.source p.target p.session set = h.keeps set kept number in
      all_blocks p.target.images (after_entries p.session.candidate (between p.session.mark p.target.applied p.session.order)) set
      (size_then _ _ _ set (size_sym _ _ set (k.size some)) (size_sym _ _ set (size_after_all p.session.candidate (between p.session.mark p.target.applied p.session.order) set)))
      (k.behind some reached);
  contents = λ set kept number. (h.keeps set kept number).contents;
}

pub known_applied : (p : PairState) → Sound p → p.source.number ≡ p.target.number → p.source.known ≤ p.target.applied
known_applied p h same = elim (cases_lt 0 p.source.number) [ inl some ↦ h.known some same | inr none ↦ omega (arith, h.none_known (omega arith)) ]

pub sound_acknowledged : (p : PairState) → Sound p → IsAcknowledged p
sound_acknowledged p h = record { each = known_applied p h }

-- nothing stands behind the mark yet
at_mark : (y : HalfState) (s : Session) (set : ℕ) → y.applied ≡ s.mark → y.images set ≡ after_entries s.candidate (between s.mark y.applied s.order) set → y.images set ≡ s.candidate set
unfolding after_entries
at_mark y s set at is = is ∙ ap (λ (es : List Entry). after_entries s.candidate es set) (ap (λ (n : ℕ). between s.mark n s.order) at ∙ between_none s.mark s.order)

pub sound_equal : (p : PairState) → Sound p → IsEqualAtMark p
sound_equal p h = record {
  each = λ set kept number some at same.
      at_mark p.target p.session set at ((sound_prefix p h).each set kept number some (omega (arith, at))) ∙ sym same;
}
