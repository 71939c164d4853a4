-- Cover, as it is seen on two hosts: of a set that both have in a group, every segment in which its volumes differ is due on one of them.
use Rattle.std.specs.Prelude.{◌≡◌, ◌⊎◌, ℕ, true, Some, is_some}
use Rattle.std.specs.List.{Contains}
use Rattle.std.specs.Str.{bytes_eq}
use Rattle.avs_seg.specs.Segment.{differ}
use Rattle.avs_model.specs.Hosts.{Name}
use Rattle.avs_model.specs.HostPlaces.{image_of}
use Rattle.avs_mirrors.specs.MirrorHosts.{MirrorHost, PairSet, mirror_set_of}

-- a host has that set of a group by that name
pub record HasSet (host : MirrorHost) (group name : Name) (set : PairSet) : Type 0 where
  pub found : mirror_set_of host name ≡ Some set
  pub here : bytes_eq group set.group ≡ true

-- also where a volume has no contents, of the blocks that lie there
pub record CoversOn (group : Name) (one other : MirrorHost) : Type 0 where
  pub each : (name : Name) (a b : PairSet) → HasSet one group name a → HasSet other group name b → (seg : ℕ)
      → Contains (differ (image_of one.own a.volume) (image_of other.own b.volume)) seg
      → (is_some (a.due seg) ≡ true) ⊎ (is_some (b.due seg) ≡ true)
