pub mod AuditLarge
pub mod AuditLayers
