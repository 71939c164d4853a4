-- What the receiving half has: the sender's images at the mark, with a front of what was placed behind it.
use Rattle.std.specs.Prelude.{◌≡◌, ℕ, ◌<◌, ◌≤◌, true}
use Rattle.avs_mirrors.specs.Entries.{after_entries, between}
use Rattle.avs_mirrors.specs.Half.{knows_mark}
use Rattle.avs_mirrors.specs.Pair.{PairState}

-- the half that was asked into the session, and has applied the mark, has in each set that nothing but entries came to since the
-- images of the sender at the mark, with the entries from there to the place it applied last: also once it has left. And such a set
-- has contents exactly from the mark on
pub record IsPrefix (p : PairState) : Type 0 where
  pub each : (set : ℕ) → p.target.kept set ≡ true → p.target.number ≡ p.session.number → 0 < p.session.mark
      → p.session.mark ≤ p.target.applied
      → p.target.images set ≡ after_entries p.session.candidate (between p.session.mark p.target.applied p.session.order) set
  pub contents : (set : ℕ) → p.target.kept set ≡ true → p.target.number ≡ p.session.number
      → p.target.contents set ≡ knows_mark p.session.mark p.target.applied

-- where the mark is the place applied last, and the sender's image is as it was when the mark was placed, both have that image
pub record IsEqualAtMark (p : PairState) : Type 0 where
  pub each : (set : ℕ) → p.target.kept set ≡ true → p.target.number ≡ p.session.number → 0 < p.session.mark
      → p.target.applied ≡ p.session.mark → p.source.images set ≡ p.session.candidate set → p.target.images set ≡ p.source.images set

-- what the sender knows applied in its session was applied: wherever both have the same number
pub record IsAcknowledged (p : PairState) : Type 0 where
  pub each : p.source.number ≡ p.target.number → p.source.known ≤ p.target.applied
