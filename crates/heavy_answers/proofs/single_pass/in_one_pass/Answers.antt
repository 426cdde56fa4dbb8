use Rattle.std.proofs.Common.{inl, inr}
use Rattle.std.proofs.lemmas.Result.{err_from_is_err_and}
use Rattle.hh_records.specs.Layouts.{texts_known}
use Rattle.hh_pieces.specs.Texts.{records_known}
use Rattle.heavy_answers.proofs.AnswerLemmas.{if_err_more, if_ok_more}
use Rattle.heavy_answers.proofs.single_pass.in_one_pass.Goals as goal

pub returns-in_err-file-clause-refused : goal.returns-in_err-file-clause-refused
returns-in_err-file-clause-refused g c =
    let p = err_from_is_err_and c.from_residual.result c.from_residual.ensures.1 in
    rw (p.1, p.2) (inl c.in_err-file.ensures.refused)

pub returns-in_err-files-clause-refused : goal.returns-in_err-files-clause-refused
returns-in_err-files-clause-refused g c =
    let p = err_from_is_err_and c.from_residual-in_err-files.result c.from_residual-in_err-files.ensures.1 in
    rw (p.1, p.2) (inr (c.in_ok-file.file.items, c.in_ok-file.ensures.file, inl c.in_err-files.ensures.refused))

pub returns-in_err-bytes-in-Files-clause-refused : goal.returns-in_err-bytes-in-Files-clause-refused
returns-in_err-bytes-in-Files-clause-refused g c =
    let p = err_from_is_err_and c.from_residual-in_err-bytes-in-Files.result c.from_residual-in_err-bytes-in-Files.ensures.1 in
    let files = c.in-Files.files in
    rw (p.1, p.2) (inr (
      c.in_ok-file.file.items,
      c.in_ok-file.ensures.file,
      inr (record {
        layout = files.layout;
        known = texts_known g.H.File.ReadAt.bytes files.layout files.files.items;
        records = rw c.in-Files.is at c.in_ok-files.ensures.records;
        fails = rw (c.records-records.ensures.layout, c.records-records.ensures.sources, c.deref.ensures.value) at c.in_err-bytes-in-Files.ensures.refused;
      }),
    ))

pub answer_by_one_thread-requires : goal.answer_by_one_thread-requires
answer_by_one_thread-requires g c = record { workers = (rw c.in-Stream.is at c.in_ok-files.ensures.records).1 }

pub returns-in-Files-clause-made : goal.returns-in-Files-clause-made
returns-in-Files-clause-made g c =
    let files = c.in-Files.files in (
      c.in_ok-file.file.items,
      c.in_ok-file.ensures.file,
      record {
        layout = files.layout;
        known = texts_known g.H.File.ReadAt.bytes files.layout files.files.items;
        records = (rw c.in-Files.is at c.in_ok-files.ensures.records) c.in_ok-bytes-in-Files.ensures.workers;
        made = rw (c.records-records.ensures.layout, c.records-records.ensures.sources, c.deref.ensures.value) at c.in_ok-bytes-in-Files.ensures.made;
      },
    )

pub returns-clause-made : goal.returns-clause-made
returns-clause-made g c =
    let records = c.in-Stream.records in
    if_ok_more c.answer_by_one_thread.result (λ bytes made. (
      c.in_ok-file.file.items,
      c.in_ok-file.ensures.file,
      record {
        layout = records.layout;
        known = records_known g.H.Reader.Read.remaining records;
        records = (rw c.in-Stream.is at c.in_ok-files.ensures.records).0;
        made = made;
      },
    )) (rw c.deref-in-Stream.ensures.value at c.answer_by_one_thread.ensures.made)

pub returns-clause-refused : goal.returns-clause-refused
returns-clause-refused g c =
    let records = c.in-Stream.records in
    if_err_more c.answer_by_one_thread.result (λ fault fails. inr (
      c.in_ok-file.file.items,
      c.in_ok-file.ensures.file,
      inr (record {
        layout = records.layout;
        known = records_known g.H.Reader.Read.remaining records;
        records = λ _. (rw c.in-Stream.is at c.in_ok-files.ensures.records).0;
        fails = fails;
      }),
    )) (rw c.deref-in-Stream.ensures.value at c.answer_by_one_thread.ensures.refused)
