-- What was reported, by equations of what was asked.
use Rattle.std.proofs.Common.{◌≡◌, Option, List, subst}
use Rattle.search_types.specs.Found.{Found}
use Rattle.search_types.specs.Inputs.{Search}
use Rattle.hir_core.specs.Tree.{Tree}
use Rattle.hir_regex.specs.declared.settings.Settings.{Settings}
use Rattle.tests_client.specs.ClientReports.{IsClientReported}

pub as_said : (xs : List Tree) (made s : Settings) (asked q : Search) (first second : Option Found) (all : List Found) →
    made ≡ s → asked ≡ q →
    IsClientReported xs made asked first second all → IsClientReported xs s q first second all
as_said xs made s asked q first second all is same reported =
    subst (λ (r : Search). IsClientReported xs s r first second all) same
    (subst (λ (t : Settings). IsClientReported xs t asked first second all) is reported)
