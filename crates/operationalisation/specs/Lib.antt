pub mod Operationalisations
