use Rattle.campaign_laws.proofs.Certified.{certified}
use Rattle.campaign_laws.proofs.every.a_table_of_every_fault_is_a_certificate.Goals as goal

pub returns : goal.returns
returns c = certified
