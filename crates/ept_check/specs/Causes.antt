-- The refusal of the checker for each refusal of the layers below.
use Rattle.ept_query.specs.declared.query_error.QueryError.{QueryError}
use Rattle.ept_query.specs.declared.query_error.QueryError.TheVariants as query
use Rattle.ept_check.specs.declared.check_error.CheckError.{CheckError}
use Rattle.ept_check.specs.declared.check_error.CheckError.TheVariants.{NotComplete, StoreFault, Damaged, Memory}

-- a refusal of a folder that is read; there is no sink
abbrev pub of_query : QueryError → CheckError
of_query query.NotComplete = NotComplete
of_query query.StoreFault = StoreFault
of_query (query.Damaged file) = Damaged file
of_query query.SinkFault = Memory
of_query query.Memory = Memory
