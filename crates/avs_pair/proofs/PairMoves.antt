-- Each move of two halves is kept by its stages on the hosts.
use Rattle.std.proofs.Common.{◌≡◌, ◌⊎◌, inl, inr, ℕ, Bool, true, false, List, [], ◌∷◌, ◌∙◌, refl, sym, ap, subst}
use Rattle.std.specs.Str.{bytes_eq}
use Rattle.avs_seg.specs.Image.{Image}
use Rattle.avs_seg.specs.Staged.{run}
use Rattle.avs_model.specs.Hosts.{Name}
use Rattle.avs_model.specs.BothHosts.{other_of}
use Rattle.avs_model.specs.declared.event.Host.{Host}
use Rattle.avs_mirrors.specs.Due.{Segments}
use Rattle.avs_mirrors.specs.Half.{HalfState, is_sending, joined, moved, parted, with_change}
use Rattle.avs_mirrors.specs.Pair.{PairState}
use Rattle.avs_mirrors.specs.HalfStages.{after_half_stage, seat_after, with_own}
use Rattle.avs_mirrors.specs.MirrorHosts.{AtOnce, Fills, Forgets, HalfStage, MirrorHalf, MirrorHost, OfHalf, Regroups, half_at}
use Rattle.avs_mirrors.specs.MirrorStates.{AtHost, MirrorState, PairStage, after_pair_stage, in_pair, mirror_host}
use Rattle.avs_mirrors.specs.MoveStages.{ChangesAt, ComesAt, JoinsAt, MovesAt, PartsAt, Spot, half_does, source_spot, other_spot}
use Rattle.avs_mirrors.specs.PairOf.{HaveOwnNames, IsHalfOf, IsPairOf, IsSentOf, View, other_host, sender_host}
use Rattle.avs_pair.proofs.HalfMoves.{half_found, half_restored, half_written, sends_not}
use Rattle.avs_pair.proofs.HalfSets.{half_came, half_gone_off, half_gone_to, half_joined, half_parted, half_returned, half_stayed}
use Rattle.avs_pair.proofs.Named.{half_beside}
use Rattle.avs_pair.proofs.PairSteps.{Moved, moved_more, moved_none, moved_one, moved_own, sent_same, sent_there, source_moved, target_moved}

-- ---- a half wherever it is: its image changes, a set joins, goes, comes back or parts

-- what stages make of one host of two, and what its half then is
pub record Made (view : View) (state : MirrorState) (at : Host) (h k : HalfState) (stages : List PairStage) : Type 0 where
  pub new : MirrorHost
  pub moved' : Moved state at new state.workers (run in_pair state stages)
  pub half : IsHalfOf view.names view.group new k
  pub sent : (half_at new view.group).sent ≡ (half_at (mirror_host state at) view.group).sent

abbrev pub IsAt : View → MirrorState → Host → HalfState → Type 0
IsAt view state at h = IsHalfOf view.names view.group (mirror_host state at) h

abbrev pub spot_at : View → MirrorState → Host → Spot
spot_at view state at = record { names = view.names; group = view.group; at = at; host = mirror_host state at }

-- one stage of the half there
made_by : (view : View) (state : MirrorState) (at : Host) (h k : HalfState) (stage : HalfStage) → IsHalfOf view.names view.group (after_half_stage (mirror_host state at) view.group stage) k
    → (half_at (after_half_stage (mirror_host state at) view.group stage) view.group).sent ≡ (half_at (mirror_host state at) view.group).sent
    → Made view state at h k (AtHost at (OfHalf view.group stage) ∷ [])
made_by view state at h k stage half sent = record { new = after_half_stage (mirror_host state at) view.group stage; moved' = moved_one state at (OfHalf view.group stage); half = half; sent = sent }

made_as : (view : View) (state : MirrorState) (at : Host) (h k : HalfState) (stages whole : List PairStage) → stages ≡ whole → Made view state at h k whole → Made view state at h k stages
made_as view state at h k stages whole is made = subst (λ (st : List PairStage). Made view state at h k st) (sym is) made

pub made_change : (view : View) (state : MirrorState) (at : Host) (h : HalfState) (set : ℕ) (image : Image) (stages : List PairStage) → HaveOwnNames view.names → IsAt view state at h → ChangesAt (spot_at view state at) h set image stages → Made view state at h (with_change h set image) stages
made_change view state at h set image stages apart is (inl w) = made_as view state at h _ stages _ w.is (record {
  new = with_own (mirror_host state at) w.own;
  moved' = moved_own state at w.own (mirror_host state at) state.workers state (moved_none state at);
  half = half_written view.names view.group (mirror_host state at) h apart is set image w.own w.contents w.makes;
  sent = refl;
})
made_change view state at h set image stages apart is (inr (inl r)) = made_as view state at h _ stages _ r.is (record {
  new = _;
  moved' = moved_one state at (AtOnce r.own view.group (Fills (view.names set)));
  half = half_restored view.names view.group (mirror_host state at) h apart is set image r.own r.makes;
  sent = sent_there (with_own (mirror_host state at) r.own) view.group (half_at (mirror_host state at) view.group).seat (half_at (mirror_host state at) view.group).sent;
})
made_change view state at h set image stages apart is (inr (inr f)) = made_as view state at h _ stages _ f.is (record {
  new = mirror_host state at;
  moved' = moved_none state at;
  half = half_found view.names view.group (mirror_host state at) h apart is set image f.off;
  sent = refl;
})

pub made_join : (view : View) (state : MirrorState) (at : Host) (h : HalfState) (key : ℕ) (keys : Segments) (filled : Bool) (stages : List PairStage) → HaveOwnNames view.names → is_sending h ≡ false → IsAt view state at h
    → JoinsAt (spot_at view state at) h key keys filled stages ⊎ ComesAt (spot_at view state at) h key keys filled stages → Made view state at h (joined h key keys filled) stages
made_join view state at h key keys filled stages apart away is (inl j) = made_as view state at h _ stages _ j.is (made_by view state at h _ _
    (half_joined view.names view.group (mirror_host state at) h key apart is keys filled j.set away j.new.new j.new.name j.new.group j.new.image j.new.contents j.new.due)
    (sent_there (mirror_host state at) view.group _ _))
made_join view state at h key keys filled stages apart away is (inr c) = made_as view state at h _ stages _ c.is (made_by view state at h _ _
    (half_came view.names view.group (mirror_host state at) h key apart is keys filled c.set away c.old.found c.old.name c.old.image c.old.contents c.old.due)
    (sent_there (mirror_host state at) view.group _ _))

-- a set goes: the other group's half changes too
made_go : (view : View) (state : MirrorState) (at : Host) (h k : HalfState) (key : ℕ) (to : Name)
    → IsHalfOf view.names view.group (after_half_stage (after_half_stage (mirror_host state at) to (Regroups (view.names key))) view.group Forgets) k
    → (half_at (after_half_stage (mirror_host state at) to (Regroups (view.names key))) view.group).sent ≡ (half_at (mirror_host state at) view.group).sent
    → Made view state at h k (AtHost at (OfHalf to (Regroups (view.names key))) ∷ AtHost at (OfHalf view.group Forgets) ∷ [])
made_go view state at h k key to half same = record {
  new = after_half_stage (after_half_stage (mirror_host state at) to (Regroups (view.names key))) view.group Forgets;
  moved' = moved_more state at (after_half_stage (mirror_host state at) to (Regroups (view.names key))) state.workers (after_pair_stage state (AtHost at (OfHalf to (Regroups (view.names key))))) (OfHalf view.group Forgets) (moved_one state at (OfHalf to (Regroups (view.names key))));
  half = half;
  sent = sent_there (after_half_stage (mirror_host state at) to (Regroups (view.names key))) view.group _ _ ∙ same;
}

beside_sent : (host : MirrorHost) (group to name : Name) → bytes_eq group to ≡ false → (half_at (after_half_stage host to (Regroups name)) group).sent ≡ (half_at host group).sent
beside_sent host group to name other = ap (λ (half : MirrorHalf). half.sent) (half_beside host to group (seat_after (half_at host to).seat (Regroups name)) (half_at host to).sent other)

pub made_move : (view : View) (state : MirrorState) (at : Host) (h : HalfState) (key : ℕ) (there : Bool) (stages : List PairStage) → HaveOwnNames view.names → is_sending h ≡ false → (there ≡ true → h.on key ≡ true) → IsAt view state at h
    → MovesAt (spot_at view state at) key there stages → Made view state at h (moved h key there) stages
made_move view state at h key true stages apart away on is r = made_as view state at h _ stages _ r.is (made_by view state at h _ _
    (half_returned view.names view.group (mirror_host state at) h key apart is (on refl))
    (sent_there (mirror_host state at) view.group _ _))
made_move view state at h key false stages apart away on is g = made_as view state at h _ stages _ g.is (made_go view state at h _ key g.group
    (half_gone_to view.names view.group (mirror_host state at) h key apart is g.group away g.other g.there)
    (beside_sent (mirror_host state at) view.group g.group (view.names key) g.other))

pub made_part : (view : View) (state : MirrorState) (at : Host) (h : HalfState) (key : ℕ) (stages : List PairStage) → HaveOwnNames view.names → is_sending h ≡ false → IsAt view state at h
    → PartsAt (spot_at view state at) h key stages → Made view state at h (parted h key) stages
made_part view state at h key stages apart away is (inl p) = made_as view state at h _ stages _ p (made_by view state at h _ _
    (half_parted view.names view.group (mirror_host state at) h key apart is away)
    (sent_there (mirror_host state at) view.group _ _))
made_part view state at h key stages apart away is (inr (inl g)) = made_as view state at h _ stages _ g.is (made_go view state at h _ key g.group
    (half_gone_off view.names view.group (mirror_host state at) h key apart is g.group away g.other g.there)
    (beside_sent (mirror_host state at) view.group g.group (view.names key) g.other))
made_part view state at h key stages apart away is (inr (inr s)) = made_as view state at h _ stages _ s.is (made_by view state at h _ _
    (half_stayed view.names view.group (mirror_host state at) h key apart is away s.away)
    (sent_there (mirror_host state at) view.group _ _))

-- ---- what was made of the source, and of the target

pub source_made : (view : View) (state : MirrorState) (p : PairState) (x : HalfState) (stages : List PairStage) → IsPairOf view state p → (is_sending x ≡ true → is_sending p.source ≡ true) → x.known ≡ p.source.known ⊎ (is_sending x ≡ false)
    → Made view state view.sender p.source x stages → IsPairOf view (run in_pair state stages) (record { source = x; target = p.target; session = p.session; messages = p.messages })
source_made view state p x stages is sends known made =
    source_moved view state (run in_pair state stages) made.new state.workers p x p.session p.messages is made.moved' made.half (λ on. sent on known) is.workers
  where
    sent : is_sending x ≡ true → x.known ≡ p.source.known ⊎ (is_sending x ≡ false) → IsSentOf view.names (half_at made.new view.group).sent x p.session
    sent on (inl same) = sent_same view.names _ _ p.source x p.session made.sent same (is.sent (sends on))
    sent on (inr away) = absurd (sends_not (is_sending x) on away)

pub target_made : (view : View) (state : MirrorState) (p : PairState) (y : HalfState) (stages : List PairStage) → IsPairOf view state p → Made view state (other_of view.sender) p.target y stages
    → IsPairOf view (run in_pair state stages) (record { source = p.source; target = y; session = p.session; messages = p.messages })
target_made view state p y stages is made = target_moved view state (run in_pair state stages) made.new state.workers p y p.session p.messages is made.moved' made.half is.sent is.workers

-- one stage of the source's half, of the target's
pub source_does : (view : View) (state : MirrorState) (p : PairState) (x : HalfState) (stage : HalfStage) (stages : List PairStage) → IsPairOf view state p → stages ≡ half_does (source_spot view state) stage → (is_sending x ≡ true → is_sending p.source ≡ true) → x.known ≡ p.source.known ⊎ (is_sending x ≡ false)
    → IsHalfOf view.names view.group (after_half_stage (sender_host view state) view.group stage) x
    → (half_at (after_half_stage (sender_host view state) view.group stage) view.group).sent ≡ (half_at (sender_host view state) view.group).sent
    → IsPairOf view (run in_pair state stages) (record { source = x; target = p.target; session = p.session; messages = p.messages })
source_does view state p x stage stages is same sends known half sent =
    source_made view state p x stages is sends known (made_as view state view.sender p.source x stages _ same (made_by view state view.sender p.source x stage half sent))

pub target_does : (view : View) (state : MirrorState) (p : PairState) (y : HalfState) (stage : HalfStage) (stages : List PairStage) → IsPairOf view state p → stages ≡ half_does (other_spot view state) stage
    → IsHalfOf view.names view.group (after_half_stage (other_host view state) view.group stage) y
    → (half_at (after_half_stage (other_host view state) view.group stage) view.group).sent ≡ (half_at (other_host view state) view.group).sent
    → IsPairOf view (run in_pair state stages) (record { source = p.source; target = y; session = p.session; messages = p.messages })
target_does view state p y stage stages is same half sent =
    target_made view state p y stages is (made_as view state (other_of view.sender) p.target y stages _ same (made_by view state (other_of view.sender) p.target y stage half sent))
