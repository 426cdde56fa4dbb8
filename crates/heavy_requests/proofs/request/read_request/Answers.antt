-- What refuses the words refuses those of their source.
use Rattle.heavy_requests.proofs.RequestLemmas.{refused_from}
use Rattle.heavy_requests.proofs.request.read_request.Goals as goal

pub returns-clause-refused : goal.returns-clause-refused
returns-clause-refused g c =
    refused_from _ _ c.request_in.result c.in_ok-words.ensures (rw c.deref.ensures.value at c.request_in.ensures.refused)
