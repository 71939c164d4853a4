-- The machine's steps and the calls of a session.
use Rattle.std.proofs.Common.{◌≡◌, true, false, refl}
use Rattle.avs_mirrors.specs.Half.{HalfRole, Lone, Sender, Receiver, is_sender, is_receiver}
use Rattle.avs_sync.specs.Machine.{BeginsAlike, PlacesAlike, MarksAlike, LearnsAlike, LeavesAlike}

-- who sends does not receive
apart : (role : HalfRole) → is_sender role ≡ true → is_receiver role ≡ false
apart Lone sends = refl
apart Sender sends = refl
apart Receiver sends = cc

pub begins_alike : BeginsAlike
begins_alike = record {
  sender = λ a keys number reverse. refl;
  receiver = λ b number reverse. refl;
}

pub places_alike : PlacesAlike
places_alike = record {
  write = λ x e copying reverse mark sends. rw (apart x.role sends) refl;
  copy = λ x set seg reverse mark sends. rw (apart x.role sends) refl;
  applied = λ y e reverse mark receives other. rw (receives, other) refl;
}

pub marks_alike : MarksAlike
marks_alike = record {
  sender = λ x reverse mark sends. rw (apart x.role sends) refl;
  receiver = λ y e reverse mark receives is. rw (receives, is) refl;
}

pub learns_alike : LearnsAlike
learns_alike = record {
  told = λ x upto reverse mark. refl;
  resumed = λ x upto reverse mark. refl;
}

pub leaves_alike : LeavesAlike
leaves_alike = record {
  sender = λ x reverse mark. refl;
  queuing = λ x reverse mark. refl;
  receiver = λ y reverse mark. refl;
  back = λ y reverse mark. refl;
}
