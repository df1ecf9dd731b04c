pub mod EsFields
