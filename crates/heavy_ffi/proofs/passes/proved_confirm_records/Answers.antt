use Rattle.heavy_ffi.proofs.passes.proved_confirm_records.Goals as goal

pub returns-clause-answers : goal.returns-clause-answers
returns-clause-answers c =
    let share = c.share_given-share.ensures in
    rw share at c.answer_by_file.ensures.answers
