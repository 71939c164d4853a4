use Rattle.std.proofs.Common.{refl, sym, ap, ◌∙◌}
use Rattle.std.specs.Prelude.{codes}
use Rattle.avs_code.specs.declared.land_headers.LandHeader.{LandHeader}
use Rattle.avs_code.specs.declared.land_headers.EntryHeader.{EntryHeader}
use Rattle.avs_code.proofs.ConfigBlocks.{config_header_at-is}
use Rattle.avs_code.proofs.GroupBlocks.{group_block_at-is}
use Rattle.avs_code.proofs.HeaderBlocks.{header_at-is}
use Rattle.avs_code.proofs.LabelBlocks.{label_at-is}
use Rattle.avs_code.proofs.QueueBlocks.{queue_header_at-is}
use Rattle.avs_code.proofs.laws.one_spelling.Goals as goal

pub returns-clause-label : goal.returns-clause-label
returns-clause-label c = record {
  value = λ block x y is also. sym (label_at-is block x is) ∙ label_at-is block y also;
  block = λ x a b is also. is.spelled ∙ sym also.spelled;
}

pub returns-clause-group_block : goal.returns-clause-group_block
returns-clause-group_block c = record {
  value = λ block x y is also. sym (group_block_at-is block x is) ∙ group_block_at-is block y also;
  block = λ x a b is also. is.spelled ∙ sym also.spelled;
}

pub returns-clause-land_header : goal.returns-clause-land_header
returns-clause-land_header c = record {
  value = λ block x y is also. sym (header_at-is (codes "AVSL") refl block x is) ∙ header_at-is (codes "AVSL") refl block y also;
  block = λ x a b is also. is.spelled ∙ sym also.spelled;
}

-- the fields of a landed entry's header as those of one in a queue
entry_of : LandHeader → EntryHeader
entry_of x = record { version = x.version; session = x.session; place = x.place; kind = x.kind; set = x.set; at = x.at; len = x.len }

pub returns-clause-entry_header : goal.returns-clause-entry_header
unfolding entry_of
returns-clause-entry_header c = record {
  value = λ block x y is also. ap entry_of (sym (header_at-is (codes "AVSE") refl block _ is) ∙ header_at-is (codes "AVSE") refl block _ also);
  block = λ x a b is also. is.spelled ∙ sym also.spelled;
}

pub returns-clause-queue_header : goal.returns-clause-queue_header
returns-clause-queue_header c = record {
  value = λ block x y is also. sym (queue_header_at-is block x is) ∙ queue_header_at-is block y also;
  block = λ x a b is also. is.spelled ∙ sym also.spelled;
}

pub returns-clause-config_header : goal.returns-clause-config_header
returns-clause-config_header c = record {
  value = λ block x y is also. sym (config_header_at-is block x is) ∙ config_header_at-is block y also;
  block = λ x a b is also. is.spelled ∙ sym also.spelled;
}
