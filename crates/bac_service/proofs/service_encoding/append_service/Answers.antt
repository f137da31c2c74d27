use Rattle.std.proofs.Common.{rules}
use Rattle.std.proofs.lemmas.Result.{on_ok_weaker}
use Rattle.bac_service.specs.Services.{value_of}
use Rattle.bac_service.specs.Laws.Service.{appends_service}
use Rattle.bac_service.proofs.service_encoding.append_service.Goals as goal

pub returns-clause-written : goal.returns-clause-written
returns-clause-written c =
    let written = c.append_production-written.result in
    let appended = on_ok_weaker written (appends_service (value_of c.args.service.now) c.append_production-written.ensures.placed) c.append_production-written.ensures.ok in
    search (rules, appended, c.or_cut_back.ensures.given, c.or_cut_back.ensures.ok)
