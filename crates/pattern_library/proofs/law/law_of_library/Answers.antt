use Rattle.pattern_library.proofs.Bindings.{library_occurs}
use Rattle.pattern_library.proofs.FivePatterns.{library_refuted, library_over}
use Rattle.pattern_library.proofs.LibraryLaws.{name_taken, query_refuted, instance_refuted}
use Rattle.pattern_library.proofs.law.law_of_library.Goals as goal

pub returns-clause-refuted : goal.returns-clause-refuted
returns-clause-refuted c = λ kind t. library_refuted t kind

pub returns-clause-occur : goal.returns-clause-occur
returns-clause-occur c = λ kind k l. library_occurs kind k l

pub returns-clause-pattern : goal.returns-clause-pattern
returns-clause-pattern c = library_over

pub returns-clause-named : goal.returns-clause-named
returns-clause-named c = name_taken

pub returns-clause-query : goal.returns-clause-query
returns-clause-query c = λ kind t per. query_refuted kind t per

pub returns-clause-instances : goal.returns-clause-instances
returns-clause-instances c = λ kind list instance sizes t per others. instance_refuted kind list instance sizes t per others
