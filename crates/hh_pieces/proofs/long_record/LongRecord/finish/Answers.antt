use Rattle.hh_pieces.proofs.long_record.LongRecord.finish.Goals as goal

pub returns-clause-holds : goal.returns-clause-holds
returns-clause-holds c fs f found h = c.in_ok-end_field.ensures.holds fs f h
